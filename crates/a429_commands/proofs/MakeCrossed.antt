-- The files that `make` writes cross in a run.
use Rattle.std.proofs.Common.{◌≡◌, ◌≤◌, ◌*◌, ◌+◌, ◌==◌, nat_lt, ℕ, Bool, true, false, cond, List, [], ◌∷◌, length, Option, Some, None, Ok, refl, arith}
use Rattle.std.proofs.lemmas.Bool.{eqb-false, ltb-false}
use Rattle.toml.specs.Parse.{parse_document}
use Rattle.toml.specs.Data.{Members}
use Rattle.a429_profile.specs.Profile.{Contents, IsProfile, Answers}
use Rattle.a429_ldu.specs.declared.fault.CutFault.TheVariants as cut
use Rattle.a429_ldu.specs.Cut.{room}
use Rattle.a429_ldu.proofs.CutFacts.{units}
use Rattle.a429_link.specs.Clean.{clean_run_steps, cut_fault, first_refused}
use Rattle.a429_link.proofs.CleanFiles.{EachCut, files_cross}
use Rattle.a429_explain.proofs.WithoutLoss.{kept}
use Rattle.a429_commands.specs.Profile.{IsProfileOf}
use Rattle.a429_commands.specs.Make.{words_made, AreByteLists, AreDelivered}

-- what a text says is a profile
pub is_profile : (bytes : List ℕ) (p : Contents) → IsProfileOf bytes p → IsProfile p
is_profile bytes p of = by (parse_document bytes) of.1
  where
    by : (o : Option Members) → Answers o (Ok p) → IsProfile p
    by None h = absurd (cc h)
    by (Some doc) h = (doc, h.0, h.1)

record HasRoom (bytes : List ℕ) : Type 0 where
  some : 1 ≤ length bytes
  most : length bytes ≤ 255 * room 255

has_room : (bytes : List ℕ) → cut_fault 255 bytes ≡ None → HasRoom bytes
has_room bytes e = by (length bytes == 0) (nat_lt (255 * room 255) (length bytes)) refl refl e
  where
    by : (a b : Bool) → (length bytes == 0) ≡ a → nat_lt (255 * room 255) (length bytes) ≡ b
        → cond a (Some cut.Empty) (cond b (Some cut.TooLong) None) ≡ None → HasRoom bytes
    by true b ea eb e = absurd (cc e)
    by false true ea eb e = absurd (cc e)
    by false false ea eb e =
        let some = eqb-false (length bytes) 0 ea in
        record { some = omega (arith, some); most = ltb-false (255 * room 255) (length bytes) eb }

pub each_cut : (p : Contents)
    → IsProfile p → (k : ℕ) (files : List (List ℕ)) → AreByteLists files → first_refused 255 k files ≡ None → EachCut p 255 files
each_cut p is k [] small none = tt
each_cut p is k (bytes ∷ files) small none =
    let parts = kept k (cut_fault 255 bytes) (first_refused 255 (k + 1) files) none in
    let r = has_room bytes parts.0 in
    (units p is 255 bytes (omega arith) (omega arith) small.0 r.some r.most, each_cut p is (k + 1) files small.1 parts.1)

pub made_cross : (p : Contents) (files : List (List ℕ))
    → IsProfile p → AreByteLists files → first_refused 255 0 files ≡ None → AreDelivered p (words_made p files) files
made_cross p files is small none =
    (clean_run_steps p 255 1 files, files_cross p 255 1 files is (omega arith) (each_cut p is 0 files small none))
