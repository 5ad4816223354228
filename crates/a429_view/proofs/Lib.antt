pub mod OneDigit
pub mod WordTexts
pub mod LabelsFacts
mod ShowFacts
mod ShowOneLine
pub mod VerdictTexts
pub mod UnitsFacts
pub mod UnitsTried
pub mod SketchFacts
pub mod PictureFacts
pub mod CrossingsFacts
pub mod SurveyFacts
pub mod TraceFacts
pub mod DigitCounts
pub mod LineFacts
pub mod BlocksFacts
pub mod BlockFilesFacts
pub mod HistoryFacts
