use Rattle.std.proofs.Common.{rules}
use Rattle.a429_view.proofs.sketch.file_ended.Goals as goal

pub returns-then-is_final : goal.returns-then-is_final
returns-then-is_final c = search rules

pub returns-else-is_final : goal.returns-else-is_final
returns-else-is_final c = search rules
