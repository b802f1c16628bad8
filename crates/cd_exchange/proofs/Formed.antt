-- Effects that submit nothing have formed origins.
use Rattle.std.proofs.Common.{◌≡◌, true, List, [], ◌∷◌}
use Rattle.std.specs.Prelude.{not}
use Rattle.std.proofs.lemmas.Bool.{and_parts, false≢true}
use Rattle.cd_entries.specs.declared.entry.Entry.{Entry}
use Rattle.cd_entries.specs.declared.entry.Entry.TheVariants as entry
use Rattle.cd_book.specs.Book.{is_submission}
use Rattle.cd_effects.specs.Stands.{HasFormedOrigin, HaveFormedOrigins}
use Rattle.cd_protocol.specs.Node.{Effect, Keep, Touch, AskSize, AskBytes, Begin, Go}
use Rattle.cd_session_rules.specs.Single.{keeps_none, keeps_one}

none_formed : (effects : List Effect) → keeps_none effects ≡ true → HaveFormedOrigins effects
none_formed [] p = _
none_formed (Keep e ∷ effects) p = absurd (false≢true p)
none_formed (Touch change ∷ effects) p = none_formed effects p
none_formed (AskSize name ∷ effects) p = none_formed effects p
none_formed (AskBytes name at len ∷ effects) p = none_formed effects p
none_formed (Begin key phase ∷ effects) p = none_formed effects p
none_formed (Go phase frames ∷ effects) p = none_formed effects p

entry_formed : (e : Entry) → not (is_submission e) ≡ true → HasFormedOrigin e
entry_formed (entry.Home name home) p = _
entry_formed (entry.Submitted number moment origin card text) p = absurd (false≢true p)
entry_formed (entry.Placed number placed moment) p = _
entry_formed (entry.Started step kind attempt moment) p = _
entry_formed (entry.Receiving r) p = _
entry_formed (entry.Mark step offset) p = _
entry_formed (entry.Result step o moment) p = _
entry_formed (entry.Ended number place rc why bytes moment) p = _
entry_formed (entry.Closed number how moment) p = _
entry_formed (entry.Forgot name home number) p = _
entry_formed (entry.Dropped step rc why moment) p = _

pub one_formed : (effects : List Effect) → keeps_one effects ≡ true → HaveFormedOrigins effects
one_formed [] p = _
one_formed (Keep e ∷ effects) p = let both = and_parts (not (is_submission e)) (keeps_none effects) p in (entry_formed e both.0, none_formed effects both.1)
one_formed (Touch change ∷ effects) p = one_formed effects p
one_formed (AskSize name ∷ effects) p = one_formed effects p
one_formed (AskBytes name at len ∷ effects) p = one_formed effects p
one_formed (Begin key phase ∷ effects) p = one_formed effects p
one_formed (Go phase frames ∷ effects) p = one_formed effects p
