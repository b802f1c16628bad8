-- The Process of a submission was said by a text.
use Rattle.std.proofs.Common.{◌≡◌, ℕ, ◌≤◌, length, Bool, true, false, cond, List, Option, Some, None, refl, sym, ap, subst, ◌∙◌}
use Rattle.std.specs.Option.{option_map}
use Rattle.cd_ast.specs.Canonical.{canonical}
use Rattle.cd_ast.specs.declared.process.Process.{Process}
use Rattle.cd_commands.specs.declared.command.Command.{Command}
use Rattle.cd_commands.specs.declared.command.Command.TheVariants as command
use Rattle.cd_commands.specs.declared.command.Options.{Options}
use Rattle.cd_commands.specs.declared.given.Given.{Given}
use Rattle.cd_commands.specs.declared.kind.Kind.{Kind}
use Rattle.cd_commands.specs.declared.kind.Kind.TheVariants as kind
use Rattle.cd_commands.specs.Commands.{IsCommand, whole, with_text, process_text}
use Rattle.cd_commands.specs.Given.{options_of, inited, changed, drilled, finished}
use Rattle.cd_commands.specs.Grammar.{Place, Rest, one_word, two_words, param, symbol, startt, on_day, on_day_at, today_at, timed, timed_named, timed_half, end, text}
use Rattle.cd_commands.specs.Machine.{Said, Whole, Text}
use Rattle.cd_grammar.specs.declared.token.Token.{Token}
use Rattle.cd_grammar.specs.Faults.{Says}
use Rattle.cd_submission.specs.Filing.{with_options, default_interval, filed, is_push}
use Rattle.cd_automaton.specs.Ranges.{is_card}
use Rattle.cd_canonical.specs.Read.{canonical_reading}
use Rattle.cd_commands.specs.Heard.{heard}
use Rattle.cd_commands.specs.declared.heard.Heard.{Heard}
use Rattle.cd_commands.specs.declared.heard.Heard.TheVariants as said
use Rattle.cd_turn.specs.Order.{IsKept, WasSaid, IsSaid, WasHeard}

-- no command of parameters alone is a Process text's
mapped : {A : Type 0} (x : Option A) (f : A → Command) (c : Command) → ((a : A) → f a ≡ c → ⊥) → option_map f x ≡ Some c → ⊥
mapped None f c other h = cc
mapped (Some a) f c other h = other a cc

init_other : (name : Option (List ℕ)) (home : Option ℕ) (p : Process) (o : Options) → inited name home ≡ Some (command.SubmitText p o) → ⊥
init_other (Some name) (Some home) p o h = cc
init_other (Some name) None p o h = cc
init_other None home p o h = cc

change_if : (t : Bool) (c : Command) (p : Process) (o : Options) → (c ≡ command.SubmitText p o → ⊥) → cond t (Some c) None ≡ Some (command.SubmitText p o) → ⊥
change_if true c p o other h = other cc
change_if false c p o other h = cc

drill_other : (file : Option (List ℕ)) (seed count : Option ℕ) (p : Process) (o : Options) → drilled file seed count ≡ Some (command.SubmitText p o) → ⊥
drill_other (Some file) seed count p o h = cc
drill_other None (Some seed) (Some count) p o h = cc
drill_other None (Some seed) None p o h = cc
drill_other None None count p o h = cc

finished_other : (k : Kind) (given : Given) (p : Process) (o : Options) → finished k given ≡ Some (command.SubmitText p o) → ⊥
unfolding finished
finished_other kind.Init given p o h = init_other given.name given.home p o h
finished_other kind.Submit given p o h = mapped given.file (λ file. command.SubmitFile file (options_of given)) _ (λ file e. cc) h
finished_other kind.View given p o h = mapped given.file (λ file. command.View file given.symbols) _ (λ file e. cc) h
finished_other kind.SelectProcess given p o h = cc
finished_other kind.Change given p o h = change_other given.pnumber h
  where
    change_other : (n : Option ℕ) → changed n given.prty given.hold given.release ≡ Some (command.SubmitText p o) → ⊥
    change_other None e = cc
    change_other (Some n) e = change_if _ (command.Change n given.prty given.hold given.release) p o (λ same. cc) e
finished_other kind.Delete given p o h = mapped given.pnumber (λ n. command.Delete n) _ (λ n e. cc) h
finished_other kind.Flush given p o h = mapped given.pnumber (λ n. command.Flush n) _ (λ n e. cc) h
finished_other kind.SelectStatistics given p o h = cc
finished_other kind.Release given p o h = mapped given.file (λ file. command.ReleaseReceive file) _ (λ file e. cc) h
finished_other kind.Work given p o h = cc
finished_other kind.Serve given p o h = cc
finished_other kind.Drill given p o h = drill_other given.file given.generate given.count p o h
finished_other kind.Stop given p o h = cc

rest_other : {place : Place} {ts : List Token} {x : Said} (p : Process) (o : Options) → Rest place ts x → x ≡ Whole (command.SubmitText p o) → ⊥
rest_other p o (one_word a r) h = rest_other p o r h
rest_other p o (two_words a b r) h = rest_other p o r h
rest_other p o (param a b r) h = rest_other p o r h
rest_other p o (symbol a b r) h = rest_other p o r h
rest_other p o (startt a r) h = rest_other p o r h
rest_other p o (on_day a r) h = rest_other p o r h
rest_other p o (on_day_at a r) h = rest_other p o r h
rest_other p o (today_at r) h = rest_other p o r h
rest_other p o (timed a b r) h = rest_other p o r h
rest_other p o (timed_named a b r) h = rest_other p o r h
rest_other p o (timed_half a b c d r) h = rest_other p o r h
rest_other p o (end {k} {given} {at} {c} made) h = let same : c ≡ command.SubmitText p o = cc in finished_other k given p o (made ∙ ap (λ (x : Command). Some x) same)
rest_other p o (text a b n) h = cc

-- a text says the Process of a submission, with some values of names
text_says : (bytes : List ℕ) (p : Process) (o : Options) → IsCommand bytes (command.SubmitText p o) → WasSaid p
text_says bytes p o (whole r) = absurd (rest_other p o r refl)
text_says bytes p o (with_text {given} {at} {rest} r s) =
    let same : s.process ≡ p = cc in
    record { text = process_text bytes at rest; overrides = given.symbols; says = subst (λ (q : Process). Says (process_text bytes at rest) given.symbols q) same s.says }

pub command_said : (bytes : List ℕ) (c : Command) → IsCommand bytes c → IsSaid c
command_said bytes (command.Init name home) is = tt
command_said bytes (command.SubmitFile file o) is = tt
command_said bytes (command.SubmitText p o) is = text_says bytes p o is
command_said bytes (command.View file symbols) is = tt
command_said bytes (command.SelectProcess n queue) is = tt
command_said bytes (command.Change n prty hold release) is = tt
command_said bytes (command.Delete n) is = tt
command_said bytes (command.Flush n) is = tt
command_said bytes (command.SelectStatistics n) is = tt
command_said bytes (command.ReleaseReceive file) is = tt
command_said bytes (command.Work sessions turns) is = tt
command_said bytes (command.Serve sessions together turns) is = tt
command_said bytes (command.Drill file) is = tt
command_said bytes (command.Generate seed count) is = tt
command_said bytes command.Stop is = tt

pub heard_said : (bytes : List ℕ) (h : Heard) → h ≡ heard bytes → ((c : Command) → heard bytes ≡ said.Command c → IsCommand bytes c) → WasHeard h
heard_said bytes (said.Command c) e law = command_said bytes c (law c (sym e))
heard_said bytes (said.Fault name at) e law = tt

-- a push that was said is kept in a form that the journal can keep
pub kept_formed : (o : Options) (p : Process) → is_push None (with_options o p) ≡ true → is_push (Some default_interval) (filed o p) ≡ true → canonical_reading (canonical (filed o p)) ≡ Some (filed o p)
    → length (canonical (filed o p)) ≤ 200000 → is_card (filed o p).card ≡ true → IsKept (filed o p)
kept_formed o p push kept read short card = record { push = kept; read = read; card = card; short = short }
