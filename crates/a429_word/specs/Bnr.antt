-- The BNR value (ARINC 429 Part 1, two's complement fractional binary notation). How many significant bits s a value has is the project's
-- own (profile).
use Rattle.std.specs.Prelude.{◌≡◌, ℕ, ◌-◌, ◌*◌, ◌^◌, ℤ, pos, ◌-ℤ◌}
use Rattle.a429_word.specs.Word.{bit, number_at, label_of, sdi_of, ssm_of}

-- the raw number with s significant bits: the s bits below bit 29, less 2 ^ s where bit 29, the sign, is 1
abbrev pub raw_of : ℕ → ℕ → ℤ
raw_of w s = pos (number_at w (29 - s) s) -ℤ pos (2 ^ s * bit w 29)

-- two words are alike in label, SDI, SSM, raw number with s significant bits, and the bits of the data field below these
pub record SameBnrFields (v w s : ℕ) : Type 0 where
  pub label : label_of v ≡ label_of w
  pub sdi : sdi_of v ≡ sdi_of w
  pub ssm : ssm_of v ≡ ssm_of w
  pub raw : raw_of v s ≡ raw_of w s
  pub below : number_at v 11 (18 - s) ≡ number_at w 11 (18 - s)
