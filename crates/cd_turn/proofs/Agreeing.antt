-- A legal list is legal by the rules of a node too.
use Rattle.std.proofs.Common.{◌≡◌, ◌≢◌, ℕ, ◌+◌, ◌≤◌, ◌<◌, max, Bool, true, false, cond, not, ◌&&◌, eqb, leb, ltb, List, [], ◌∷◌, ◌++◌, length, reverse, Option, Some, None, refl, sym, ap, subst, ◌∙◌, arith, append_assoc, length-append}
use Rattle.std.specs.Prelude.{All, IfSome, is_none}
use Rattle.std.specs.List.{list_all}
use Rattle.std.specs.Option.{option_map}
use Rattle.std.specs.Str.{bytes_eq}
use Rattle.std.proofs.lemmas.Bool.{and_parts, and_from, le-leb, lt-ltb, eq-eqb}
use Rattle.std.proofs.lemmas.List.{append-nil, reverse-append}
use Rattle.std.proofs.lemmas.List.Elements.{All-nil, All-cons, All-head, All-tail}
use Rattle.std.proofs.lemmas.Slice.Eq.{bytes_eq-Decides}
use Rattle.cd_types.specs.Choices.{hold_code, retain_code}
use Rattle.cd_types.specs.declared.card.Filed.{Filed}
use Rattle.cd_types.specs.declared.key.Key.{Key}
use Rattle.cd_types.specs.declared.start.Card.{Card}
use Rattle.cd_entries.specs.Entry.{IsEntry}
use Rattle.cd_entries.specs.declared.entry.Entry.{Entry}
use Rattle.cd_entries.specs.declared.entry.Entry.TheVariants as entry
use Rattle.cd_ast.specs.declared.process.Process.{Process}
use Rattle.cd_ast.specs.declared.process.Stmt.{Stmt}
use Rattle.cd_ast.specs.declared.process.What.{What}
use Rattle.cd_ast.specs.declared.process.What.TheVariants as what
use Rattle.cd_submission.specs.Filing.{default_interval, is_plain_card, replaces, says_interval as has_interval, is_push_step, is_one, is_push}
use Rattle.cd_rules.specs.Legal.{is_empty, is_from, is_snode_of, is_card_of, is_given, says_interval, has_small_symbols, is_filed, is_new_origin, may_submit, is_first, allowed, is_legal}
use Rattle.cd_rules.specs.Steps.{Reading}
use Rattle.cd_rules.specs.Keys.{same_key}
use Rattle.cd_rules.proofs.KeysLaw.{same_key-true}
use Rattle.cd_rules.specs.Processes.{submitted, is_origin, made_for, live_numbers, latest}
use Rattle.cd_canonical.specs.Read.{canonical_reading}
use Rattle.cd_turn.specs.Entries.{submitted_in, live_in, latest_in, origin_of, moment_of}
use Rattle.cd_turn.specs.Legal.{IsNext, IsSubmission, FollowLegally, IsLegal}
use Rattle.cd_turn.specs.Texts.{card_for, filed_card, push_card, card_in, without_start, IsText}
use Rattle.cd_turn.proofs.Counting.{submitted-push, latest-push}
use Rattle.cd_turn.proofs.Legality.{live-legal, legal_push}

-- A text, its card and its statements.

gives_interval : (ckpt : Option ℕ) → has_interval (Some default_interval) ckpt ≡ true → (interval : ℕ) × (ckpt ≡ Some interval)
gives_interval None h = absurd cc
gives_interval (Some n) h = (n, refl)

abbrev is_said : What → Bool
is_said w = says_interval w && has_small_symbols w

step_said : (w : What) → is_push_step (Some default_interval) w ≡ true → is_said w ≡ true
step_said (what.Copy copy) h =
    let parts = and_parts (copy.push && replaces copy.disp) (has_interval (Some default_interval) copy.ckpt) h in
    let given = gives_interval copy.ckpt parts.1 in
    ap (λ (o : Option ℕ). is_given o && true) given.1
step_said (what.Task task) h = absurd cc
step_said (what.Submit submit) h = absurd cc
step_said (what.If label rel n) h = absurd cc
step_said what.Else h = absurd cc
step_said what.Eif h = absurd cc
step_said (what.Goto label) h = absurd cc
step_said what.Exit h = absurd cc

one_said : (stmts : List Stmt) → is_one (λ stmt. is_push_step (Some default_interval) stmt.what) stmts ≡ true → list_all (λ s. is_said s.what) stmts ≡ true
one_said [] h = absurd cc
one_said (stmt ∷ []) h = and_from (is_said stmt.what) true (step_said stmt.what h) refl
one_said (stmt ∷ other ∷ stmts) h = absurd cc

push_said : (process : Process) → is_push (Some default_interval) process ≡ true → list_all (λ s. is_said s.what) process.stmts ≡ true
unfolding is_push
push_said process h = one_said process.stmts (and_parts (is_plain_card process.card) (is_one (λ stmt. is_push_step (Some default_interval) stmt.what) process.stmts) h).1

card_agrees : (card : Filed) (process : Process) (partner : Option (List ℕ)) → process.card.name ≡ process.name → process.card.snode ≡ partner → option_map (λ snode. card_for snode process.card) partner ≡ Some (without_start card) → is_card_of card process ≡ true
card_agrees card process None named same h = absurd cc
card_agrees card process (Some snode) named same h =
    let is : card_for snode process.card ≡ without_start card = cc in
    let name : card.name ≡ process.name = sym (ap (λ (c : Filed). c.name) is) ∙ named in
    let node : card.snode ≡ snode = sym (ap (λ (c : Filed). c.snode) is) in
    let prty : card.prty ≡ process.card.prty = sym (ap (λ (c : Filed). c.prty) is) in
    let class : card.class ≡ process.card.class = sym (ap (λ (c : Filed). c.class) is) in
    let hold : hold_code card.hold ≡ hold_code process.card.hold = sym (ap (λ (c : Filed). hold_code c.hold) is) in
    let retain : retain_code card.retain ≡ retain_code process.card.retain = sym (ap (λ (c : Filed). retain_code c.retain) is) in
    and_from _ _
    (and_from _ _
    (and_from _ _
    (and_from _ _ (and_from _ _ ((bytes_eq-Decides card.name process.name).1 name) (subst (λ (o : Option (List ℕ)). is_snode_of card.snode o ≡ true) (sym same) ((bytes_eq-Decides card.snode snode).1 node))) (eq-eqb card.prty process.card.prty prty))
    (eq-eqb card.class process.card.class class))
    (eq-eqb (hold_code card.hold) (hold_code process.card.hold) hold))
    (eq-eqb (retain_code card.retain) (retain_code process.card.retain) retain)

-- a test that was passed
passed : (t : Bool) (x : Option Filed) (c : Filed) → cond t x None ≡ Some c → (t ≡ true) × (x ≡ Some c)
passed true x c h = (refl, h)
passed false x c h = absurd cc

abbrev Named : Reading → Type 0
Named read = (text : List ℕ) (process : Process) → read text ≡ Some process → process.card.name ≡ process.name

filed_agrees : (text : List ℕ) (card : Filed) (read : Option Process) → ((process : Process) → read ≡ Some process → process.card.name ≡ process.name) → push_card read ≡ Some (without_start card) → is_filed card read ≡ true
filed_agrees text card None named h = absurd cc
filed_agrees text card (Some process) named h =
    let parts = passed (is_push (Some default_interval) process) (filed_card process.card) (without_start card) h in
    and_from (is_card_of card process) (list_all (λ s. is_said s.what) process.stmts) (card_agrees card process process.card.snode (named process refl) refl parts.1) (push_said process parts.0)

text_agrees : Named canonical_reading → (text : List ℕ) (card : Filed) → IsText card text → is_filed card (canonical_reading text) ≡ true
unfolding card_in
text_agrees named text card is = filed_agrees text card (canonical_reading text) (λ process e. named text process e) is

-- A list, the newest entry first, says the same as the list in order.
record Agrees (before journal : List Entry) : Type 0 where
  reversed : journal ≡ reverse before
  order : IsLegal before
  legal : is_legal canonical_reading journal ≡ true
  submitted_is : submitted journal ≡ submitted_in before
  latest_is : latest journal ≡ latest_in before
  live_is : length (live_numbers journal) ≡ submitted_in before
  made : (key : Key) → All (λ e. origin_of e ≢ Some key) before → made_for journal key ≡ None
  begun : before ≢ [] → is_empty journal ≡ false

all_front : (P : Entry → Type 0) (xs ys : List Entry) → All P (xs ++ ys) → All P xs
all_front P [] ys h = All-nil P
all_front P (x ∷ xs) ys h = All-cons P x xs (All-head P x (xs ++ ys) h) (all_front P xs ys (All-tail P x (xs ++ ys) h))

all_back : (P : Entry → Type 0) (xs ys : List Entry) → All P (xs ++ ys) → All P ys
all_back P [] ys h = h
all_back P (x ∷ xs) ys h = all_back P xs ys (All-tail P x (xs ++ ys) h)

agree_none : Agrees [] []
unfolding is_legal submitted latest live_numbers made_for
agree_none = record {
  reversed = refl;
  order = tt;
  legal = refl;
  submitted_is = refl;
  latest_is = refl;
  live_is = refl;
  made = λ key none. refl;
  begun = λ some. absurd (some refl);
}

reversed_push : (before journal : List Entry) (e : Entry) → journal ≡ reverse before → e ∷ journal ≡ reverse (before ++ e ∷ [])
reversed_push before journal e same = ap (λ (l : List Entry). e ∷ l) same ∙ sym (reverse-append before (e ∷ []))

none_agrees : (before journal : List Entry) → Agrees before journal → before ≡ [] → journal ≡ []
none_agrees before journal a none = a.reversed ∙ ap reverse none

home_agrees : (before journal : List Entry) (name : List ℕ) (home : ℕ) → Agrees before journal → IsEntry (entry.Home name home) → before ≡ [] → Agrees (before ++ entry.Home name home ∷ []) (entry.Home name home ∷ journal)
unfolding is_legal allowed submitted latest live_numbers made_for
home_agrees before journal name home a form none =
    let e = entry.Home name home in
    record {
      reversed = reversed_push before journal e a.reversed;
      order = legal_push before e a.order form none;
      legal = and_from (is_legal canonical_reading journal) (allowed canonical_reading journal e) a.legal (subst (λ (l : List Entry). allowed canonical_reading l e ≡ true) (sym (none_agrees before journal a none)) refl);
      submitted_is = let same = a.submitted_is in let more = submitted-push before e in omega arith;
      latest_is = let same = a.latest_is in let more = latest-push before e in omega arith;
      live_is = let same = a.live_is in let more = submitted-push before e in omega arith;
      made = λ key all. a.made key (all_front (λ e. origin_of e ≢ Some key) before (e ∷ []) all);
      begun = λ some. refl;
    }

-- no step submits twice
origin_other : (key : Key) (origin : Option Key) → (origin ≢ Some key) → is_origin key origin ≡ false
origin_other key None other = refl
origin_other key (Some step) other = by_test (same_key key step) refl
  where
    by_test : (t : Bool) → same_key key step ≡ t → t ≡ false
    by_test true e = absurd (other (ap (λ (k : Key). Some k) (sym (same_key-true key step e))))
    by_test false e = refl

new_agrees : (before journal : List Entry) (origin : Option Key) → Agrees before journal → IfSome origin (λ key. All (λ e. origin_of e ≢ Some key) before) → is_new_origin journal origin ≡ true
new_agrees before journal None a once = refl
new_agrees before journal (Some key) a once = ap is_none (a.made key once)

made_push : (t : Bool) (n : ℕ) (later : Option ℕ) → t ≡ false → later ≡ None → cond t (Some n) later ≡ None
made_push true n later other none = absurd cc
made_push false n later other none = none

submission_agrees : Named canonical_reading → (before journal : List Entry) (n moment : ℕ) (origin : Option Key) (card : Filed) (text : List ℕ) → Agrees before journal → IsEntry (entry.Submitted n moment origin card text) → IsSubmission before n moment origin card text
    → Agrees (before ++ entry.Submitted n moment origin card text ∷ []) (entry.Submitted n moment origin card text ∷ journal)
unfolding is_legal allowed submitted latest live_numbers made_for
submission_agrees named before journal n moment origin card text a form is =
    let e = entry.Submitted n moment origin card text in
    let live = live-legal before a.order in
    let room = is.room in
    let small : length (live_numbers journal) < 4096 = let same = a.live_is in omega arith in
    let next : n ≡ submitted journal + 1 = is.next ∙ ap (λ (k : ℕ). k + 1) (sym a.submitted_is) in
    let later : latest journal ≤ moment = let same = a.latest_is in let from = is.later in omega arith in
    let may : may_submit canonical_reading journal n origin card text ≡ true =
    and_from _ _ (and_from _ _ (and_from _ _ (and_from _ _ (and_from _ _ (eq-eqb n (submitted journal + 1) next) (le-leb n 99999 is.last)) (lt-ltb (length (live_numbers journal)) 4096 small)) (le-leb (length text) 200000 is.short)) (text_agrees named text card is.canonical))
    (new_agrees before journal origin a is.once) in
    let may_stand : allowed canonical_reading journal e ≡ true = and_from _ _ (and_from _ _ (ap not (a.begun is.begun)) (le-leb (latest journal) moment later)) may in
    record {
      reversed = reversed_push before journal e a.reversed;
      order = legal_push before e a.order form is;
      legal = and_from (is_legal canonical_reading journal) (allowed canonical_reading journal e) a.legal may_stand;
      submitted_is = let same = a.submitted_is in let more = submitted-push before e in omega arith;
      latest_is = let same = a.latest_is in let more = latest-push before e in omega arith;
      live_is = let same = a.live_is in let more = submitted-push before e in let len = length-append (live_numbers journal) (n ∷ []) in omega arith;
      made = λ key all.
          made_push (is_origin key origin) n (made_for journal key) (origin_other key origin (All-head (λ e. origin_of e ≢ Some key) e [] (all_back (λ e. origin_of e ≢ Some key) before (e ∷ []) all)))
          (a.made key (all_front (λ e. origin_of e ≢ Some key) before (e ∷ []) all));
      begun = λ some. refl;
    }

agree_push : Named canonical_reading → (before journal : List Entry) (e : Entry) → Agrees before journal → IsEntry e → IsNext before e → Agrees (before ++ e ∷ []) (e ∷ journal)
agree_push named before journal (entry.Home name home) a form next = home_agrees before journal name home a form next
agree_push named before journal (entry.Submitted n moment origin card text) a form next = submission_agrees named before journal n moment origin card text a form next
agree_push named before journal (entry.Placed number placing moment) a form next = absurd next
agree_push named before journal (entry.Started key kind attempt moment) a form next = absurd next
agree_push named before journal (entry.Receiving receiving) a form next = absurd next
agree_push named before journal (entry.Mark key offset) a form next = absurd next
agree_push named before journal (entry.Result key outcomes moment) a form next = absurd next
agree_push named before journal (entry.Ended number place rc cause bytes moment) a form next = absurd next
agree_push named before journal (entry.Closed number how moment) a form next = absurd next
agree_push named before journal (entry.Forgot name home number) a form next = absurd next
agree_push named before journal (entry.Dropped key rc cause moment) a form next = absurd next

follow_agrees : Named canonical_reading → (before journal entries : List Entry) → Agrees before journal → FollowLegally before entries → is_legal canonical_reading (reverse (before ++ entries)) ≡ true
follow_agrees named before journal [] a follows = subst (λ (l : List Entry). is_legal canonical_reading l ≡ true) (a.reversed ∙ ap reverse (sym (append-nil before))) a.legal
follow_agrees named before journal (e ∷ entries) a follows =
    subst (λ (l : List Entry). is_legal canonical_reading (reverse l) ≡ true) (append_assoc before (e ∷ []) entries) (follow_agrees named (before ++ e ∷ []) (e ∷ journal) entries (agree_push named before journal e a follows.0 follows.1) follows.2)

pub legal_agrees : ((text : List ℕ) (process : Process) → canonical_reading text ≡ Some process → process.card.name ≡ process.name) → (entries : List Entry) → IsLegal entries → is_legal canonical_reading (reverse entries) ≡ true
legal_agrees named entries legal = follow_agrees named [] [] entries agree_none legal
