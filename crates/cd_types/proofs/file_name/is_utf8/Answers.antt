use Rattle.std.proofs.Common.{◌≡◌, ℕ, Bool, true, false, List, refl, sym}
use Rattle.std.specs.Prelude.{IsUtf8}
use Rattle.std.specs.Str.{is_utf8}
use Rattle.std.proofs.lemmas.Str.{is_utf8-from_IsUtf8, IsUtf8-from_is_utf8}
use Rattle.cd_types.proofs.file_name.is_utf8.Goals as goal

tested : (b : Bool) (text : List ℕ) → is_utf8 text ≡ b → ¬ (IsUtf8 text) → false ≡ b
tested false text is not_utf8 = refl
tested true text is not_utf8 = absurd (not_utf8 (IsUtf8-from_is_utf8 text is))

pub returns-in-Ok : goal.returns-in-Ok
returns-in-Ok c = sym (is_utf8-from_IsUtf8 c.args.text.now c.in-Ok.ensures.cases.1)

pub returns-in-Err : goal.returns-in-Err
returns-in-Err c = tested (is_utf8 c.args.text.now) c.args.text.now refl c.in-Err.ensures.cases.0
