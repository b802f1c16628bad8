-- What is received is as its statement says, and each COPY that ended with 0 has one landing that is.
use Rattle.std.proofs.Common.{◌≡◌, ℕ, Bool, true, false, cond, ◌&&◌, List, [], ◌∷◌, Option, Some, None, inl, inr, refl, sym, ◌∙◌, ap, subst}
use Rattle.std.proofs.lemmas.Bool.{and_parts, false≢true}
use Rattle.cd_types.specs.declared.choices.Cause.{Cause}
use Rattle.cd_types.specs.declared.key.Key.{Key}
use Rattle.cd_types.specs.declared.rows.Receiving.{Receiving}
use Rattle.cd_entries.specs.declared.entry.Entry.{Entry}
use Rattle.cd_entries.specs.declared.entry.Entry.TheVariants as entry
use Rattle.cd_ast.specs.declared.process.CopyStep.{CopyStep}
use Rattle.cd_ast.specs.declared.process.What.{What}
use Rattle.cd_ast.specs.declared.process.What.TheVariants as what
use Rattle.cd_rules.specs.Keys.{same_key}
use Rattle.cd_rules.proofs.KeysLaw.{same_key-true}
use Rattle.cd_rules.specs.Processes.{own_home}
use Rattle.cd_rules.specs.Legal.{is_legal}
use Rattle.cd_rules.proofs.LegalLaw.{legal_parts, follows}
use Rattle.cd_rules.specs.Steps.{Reading, what_at}
use Rattle.cd_world.specs.World.{At, A, B, across, Note, Sized, Read, Began, Landed, Dropped, Wrote, Half, World, Event, after, IsFirst, ArePossible}
use Rattle.cd_world.specs.Holds.{journal_of, EachEnded, IsAs, IsStated, IsStepOf, AsStated, EachReceiving, HaveStatements, is_at, landings, IsOne, keeper, LandsOnce, HaveLanded, noted_landings, IsOneAs, LandsAsStated, HaveCopied}
use Rattle.cd_world.proofs.EffectsLaw.{Own}
use Rattle.cd_world.proofs.GrownLaw.{BothGrown, after_grown, first_sound}
use Rattle.cd_world.proofs.KeptLaw.{statement_stays}
use Rattle.cd_world.proofs.AgreedLaw.{Of, StatedBy, EachLanded, Agreed, BothAgreed, each_receiving_more, each_landed_more, new_own, first_agreed, after_agreed, events_land}

-- The statements.

module _ (x : At) (own : Own) (a b : Half) (notes : List Note) (h : Agreed x own a b notes) where
  as_stated : (r : Receiving) → StatedBy own (journal_of a) (Of b) r → AsStated a b r
  as_stated r by = elim by.theirs [
    | inl own_key ↦ inl (h.home ∙ own_key, subst (λ (read : Reading). IsStated read (journal_of a) false r) (sym h.stated.reads) (by.mine own_key))
    | inr told ↦ inr (told.own_key, record { step = told.step; stands = told.stands; way = told.push; same = record { name = told.name_is; disp = told.disp_is; interval = told.interval_is } })
  ]

  landed_as_stated : EachLanded x (AsStated a b) notes
  landed_as_stated = each_landed_more x (StatedBy own (journal_of a) (Of b)) (AsStated a b) as_stated notes h.stated.noted

  all_as_stated : EachReceiving (AsStated a b) (journal_of a)
  all_as_stated = each_receiving_more (StatedBy own (journal_of a) (Of b)) (AsStated a b) as_stated (journal_of a) h.stated.each

pub events_statements : (w : World) (events : List Event) → IsFirst w → ArePossible w events → HaveStatements (after w events)
events_statements w events first possible =
    let own_a : Own = new_own first.name_a first.home_a w.a in
    let own_b : Own = new_own first.name_b first.home_b w.b in
    let v : World = after w events in
    let h : BothAgreed A (new_own first.name_a first.home_a w.a) (new_own first.name_b first.home_b w.b) (after w events) = after_agreed _ _ w events (first_agreed w first) (first_sound w first) in
    record { a = all_as_stated A own_a v.a v.b v.notes h.a; b = all_as_stated B own_b v.b v.a v.notes h.b }

-- Copies as they are stated.

at_same : (x y : At) → is_at x y ≡ true → y ≡ x
at_same A A here = refl
at_same A B here = absurd (false≢true here)
at_same B A here = absurd (false≢true here)
at_same B B here = refl

-- the one landing of a step
record OneLanding (x : At) (P : Receiving → Type 0) (key : Key) (noted : List Note) : Type 0 where
  r : Receiving
  got : List ℕ
  is : noted ≡ Landed x r got ∷ []
  of_step : r.key ≡ key
  good : P r

module _ (x : At) (P : Receiving → Type 0) (key : Key) where
  none_noted : (notes : List Note) → landings x key notes ≡ [] → noted_landings x key notes ≡ []
  none_noted [] none = refl
  none_noted (Landed y r got ∷ notes) none = by_test (is_at x y && same_key key r.key) (none_noted notes) none where
    by_test : (b : Bool) → (landings x key notes ≡ [] → noted_landings x key notes ≡ []) → cond b (got ∷ landings x key notes) (landings x key notes) ≡ [] → cond b (Landed y r got ∷ noted_landings x key notes) (noted_landings x key notes) ≡ []
    by_test true behind some = absurd cc
    by_test false behind rest = behind rest
  none_noted (Sized y name size ∷ notes) none = none_noted notes none
  none_noted (Read y step at bytes ∷ notes) none = none_noted notes none
  none_noted (Began y r ∷ notes) none = none_noted notes none
  none_noted (Dropped y r ∷ notes) none = none_noted notes none
  none_noted (Wrote y name bytes ∷ notes) none = none_noted notes none

  one_noted : (notes : List Note) (got : List ℕ) → EachLanded x P notes → landings x key notes ≡ got ∷ [] → OneLanding x P key (noted_landings x key notes)
  one_noted [] got all one = absurd cc
  one_noted (Landed y r new ∷ notes) got all one = by_test (is_at x y && same_key key r.key) refl (one_noted notes got all.1) one where
    by_test : (b : Bool) → (is_at x y && same_key key r.key) ≡ b → (landings x key notes ≡ got ∷ [] → OneLanding x P key (noted_landings x key notes))
        → cond b (new ∷ landings x key notes) (landings x key notes) ≡ got ∷ []
        → OneLanding x P key (cond b (Landed y r new ∷ noted_landings x key notes) (noted_landings x key notes))
    by_test true test behind first =
        let both = and_parts (is_at x y) (same_key key r.key) test in
        let rest : landings x key notes ≡ [] = cc in
        record {
          r = r;
          got = new;
          is = ap (λ (more : List Note). Landed y r new ∷ more) (none_noted notes rest) ∙ ap (λ (z : At). Landed z r new ∷ []) (at_same x y both.0);
          of_step = sym (same_key-true key r.key both.1);
          good = all.0 both.0;
        }
    by_test false test behind rest = behind rest
  one_noted (Sized y name size ∷ notes) got all one = one_noted notes got all one
  one_noted (Read y step at bytes ∷ notes) got all one = one_noted notes got all one
  one_noted (Began y r ∷ notes) got all one = one_noted notes got all one
  one_noted (Dropped y r ∷ notes) got all one = one_noted notes got all one
  one_noted (Wrote y name bytes ∷ notes) got all one = one_noted notes got all one

-- a home stays
home_stays : (read : Reading) (e : Entry) (journal : List Entry) (known : List ℕ × ℕ) → is_legal read (e ∷ journal) ≡ true → own_home journal ≡ Some known → own_home (e ∷ journal) ≡ Some known
unfolding own_home
home_stays read (entry.Home name home) [] known legal is = absurd cc
home_stays read (entry.Home name home) (before ∷ journal) known legal is = absurd (false≢true (follows read (entry.Home name home) (before ∷ journal) legal))
home_stays read e journal known legal is = is

-- a node isn't the other one
abbrev name_in : Option (List ℕ × ℕ) → List ℕ
name_in None = []
name_in (Some known) = known.0

names_apart : (name name2 : List ℕ) (home home2 : ℕ) → (name ≡ name2 → ⊥) → ◌≡◌ {A = Option (List ℕ × ℕ)} (Some (name, home)) (Some (name2, home2)) → ⊥
names_apart name name2 home home2 apart is = apart (ap name_in is)

pulled : (here there : Half) (r : Receiving) → (own_home (journal_of here) ≡ own_home (journal_of there) → ⊥) → IsStepOf (journal_of here) r.key → AsStated here there r
    → IsStated here.node.view.config.read (journal_of here) false r
pulled here there r apart own (inl stated) = stated.1
pulled here there r apart own (inr stated) = absurd (apart (own ∙ sym stated.0))

pushed : (here there : Half) (r : Receiving) → (own_home (journal_of here) ≡ own_home (journal_of there) → ⊥) → IsStepOf (journal_of there) r.key → AsStated here there r
    → IsStated there.node.view.config.read (journal_of there) true r
pushed here there r apart own (inl stated) = absurd (apart (stated.0 ∙ sym own))
pushed here there r apart own (inr stated) = stated.1

module _ (x : At) (a b : Half) (notes : List Note) (here : EachLanded x (AsStated a b) notes) (there_too : EachLanded (across x) (AsStated b a) notes)
    (apart : own_home (journal_of a) ≡ own_home (journal_of b) → ⊥) where
  abbrev ReadsAs : List Entry → Type 0
  ReadsAs journal = (n place : ℕ) (s : What) → what_at a.node.view.config.read journal n place ≡ Some s → what_at a.node.view.config.read (journal_of a) n place ≡ Some s

  abbrev HomeAs : List Entry → Type 0
  HomeAs journal = (known : List ℕ × ℕ) → own_home journal ≡ Some known → own_home (journal_of a) ≡ Some known

  -- the statement of a step is one
  as_copy : (push : Bool) (key : Key) (step : CopyStep) (r : Receiving) → what_at a.node.view.config.read (journal_of a) key.number key.place ≡ Some (what.Copy step) → r.key ≡ key
      → IsStated a.node.view.config.read (journal_of a) push r → IsAs step r
  as_copy push key step r copy own s =
      let known : what_at a.node.view.config.read (journal_of a) key.number key.place ≡ Some (what.Copy s.step) =
      subst (λ (k : Key). what_at a.node.view.config.read (journal_of a) k.number k.place ≡ Some (what.Copy s.step)) own s.stands in
      let same : s.step ≡ step = cc in
      subst (λ (t : CopyStep). IsAs t r) same s.same

  one_copied : (journal : List Entry) (n place rc : ℕ) (why : Cause) (bytes : ℕ) → ReadsAs journal → HomeAs journal → LandsOnce x a.node.view.config.read notes journal n place rc why bytes
      → LandsAsStated x a.node.view.config.read notes journal n place rc why bytes
  one_copied journal n place rc why bytes reads homes once key step is copy code = by_way step.push refl where
    home_is : own_home (journal_of a) ≡ Some (key.pnode, key.home)
    home_is = homes (key.pnode, key.home) is.home

    copy_is : what_at a.node.view.config.read (journal_of a) key.number key.place ≡ Some (what.Copy step)
    copy_is =
        subst (λ (m : ℕ). what_at a.node.view.config.read (journal_of a) m key.place ≡ Some (what.Copy step)) (sym is.number)
        (subst (λ (m : ℕ). what_at a.node.view.config.read (journal_of a) n m ≡ Some (what.Copy step)) (sym is.step) (reads n place (what.Copy step) copy))

    by_way : (push : Bool) → step.push ≡ push → IsOneAs (keeper x step) step (noted_landings (keeper x step) key notes)
    by_way true push =
        let one : IsOne (landings (across x) key notes) = subst (λ (p : Bool). IsOne (landings (cond p (across x) x) key notes)) push (once key step is copy code) in
        let found = one_noted (across x) (AsStated b a) key notes one.got there_too one.is in
        let stated = pushed b a found.r (λ same. apart (sym same)) (subst (λ (k : Key). own_home (journal_of a) ≡ Some (k.pnode, k.home)) (sym found.of_step) home_is) found.good in
        subst (λ (p : Bool). IsOneAs (cond p (across x) x) step (noted_landings (cond p (across x) x) key notes)) (sym push)
        (record { r = found.r; got = found.got; is = found.is; same = as_copy true key step found.r copy_is found.of_step stated })
    by_way false pull =
        let one : IsOne (landings x key notes) = subst (λ (p : Bool). IsOne (landings (cond p (across x) x) key notes)) pull (once key step is copy code) in
        let found = one_noted x (AsStated a b) key notes one.got here one.is in
        let stated = pulled a b found.r apart (subst (λ (k : Key). own_home (journal_of a) ≡ Some (k.pnode, k.home)) (sym found.of_step) home_is) found.good in
        subst (λ (p : Bool). IsOneAs (cond p (across x) x) step (noted_landings (cond p (across x) x) key notes)) (sym pull)
        (record { r = found.r; got = found.got; is = found.is; same = as_copy false key step found.r copy_is found.of_step stated })

  all_copied : (journal : List Entry) → is_legal a.node.view.config.read journal ≡ true → ReadsAs journal → HomeAs journal → EachEnded (LandsOnce x a.node.view.config.read notes) journal
      → EachEnded (LandsAsStated x a.node.view.config.read notes) journal
  all_copied [] legal reads homes all = tt
  all_copied (e ∷ journal) legal reads homes all =
      let before : is_legal a.node.view.config.read journal ≡ true = (legal_parts a.node.view.config.read e journal legal).0 in
      let reads2 : ReadsAs journal = λ n place s is. reads n place s (statement_stays a.node.view.config.read e journal n place s legal is) in
      let homes2 : HomeAs journal = λ known is. homes known (home_stays a.node.view.config.read e journal known legal is) in
      with_entry e reads2 homes2 all (λ rest. all_copied journal before reads2 homes2 rest)
    where
      with_entry : (f : Entry) → ReadsAs journal → HomeAs journal → EachEnded (LandsOnce x a.node.view.config.read notes) (f ∷ journal)
          → (EachEnded (LandsOnce x a.node.view.config.read notes) journal → EachEnded (LandsAsStated x a.node.view.config.read notes) journal)
          → EachEnded (LandsAsStated x a.node.view.config.read notes) (f ∷ journal)
      with_entry (entry.Ended n place rc why bytes moment) reads2 homes2 all2 more = (one_copied journal n place rc why bytes reads2 homes2 all2.0, more all2.1)
      with_entry (entry.Home name home) reads2 homes2 all2 more = more all2
      with_entry f reads2 homes2 all2 more = more all2

pub events_copied : (w : World) (events : List Event) → IsFirst w → ArePossible w events → HaveCopied (after w events)
events_copied w events first possible =
    let own_a : Own = new_own first.name_a first.home_a w.a in
    let own_b : Own = new_own first.name_b first.home_b w.b in
    let v : World = after w events in
    let h : BothAgreed A (new_own first.name_a first.home_a w.a) (new_own first.name_b first.home_b w.b) (after w events) = after_agreed _ _ w events (first_agreed w first) (first_sound w first) in
    let grown : BothGrown w (after w events) = after_grown w events (first_sound w first) in
    let once : HaveLanded (after w events) = events_land w events first possible in
    let at_a : EachLanded A (AsStated v.a v.b) v.notes = landed_as_stated A own_a v.a v.b v.notes h.a in
    let at_b : EachLanded B (AsStated v.b v.a) v.notes = landed_as_stated B own_b v.b v.a v.notes h.b in
    let apart : (own_home (journal_of v.a) ≡ own_home (journal_of v.b) → ⊥) = λ same. names_apart first.name_a first.name_b first.home_a first.home_b first.names (sym h.a.home ∙ same ∙ h.b.home) in
    record {
      a = all_copied A v.a v.b v.notes at_a at_b apart (journal_of v.a) grown.a.sound.legal (λ n place s is. is) (λ known is. is) once.a;
      b = all_copied B v.b v.a v.notes at_b at_a (λ same. apart (sym same)) (journal_of v.b) grown.b.sound.legal (λ n place s is. is) (λ known is. is) once.b;
    }
