-- Where the live Processes of a legal journal stand.
use Rattle.std.proofs.Common.{◌≡◌, ℕ, ◌+◌, ◌≤◌, Bool, true, false, cond, ◌&&◌, eqb, leb, ltb, List, [], ◌∷◌, length, Option, Some, None, inl, inr, refl, sym, ◌∙◌, ap, subst, arith}
use Rattle.std.specs.Prelude.{◌||◌}
use Rattle.std.specs.List.{list_all}
use Rattle.std.specs.Str.{bytes_eq}
use Rattle.std.proofs.lemmas.Bool.{cases_Bool, and_parts, eqb-true, leb-true, cond-true, cond-false, false≢true}
use Rattle.cd_types.specs.Choices.{hold_code, retain_code}
use Rattle.cd_types.specs.declared.card.Filed.{Filed}
use Rattle.cd_types.specs.declared.choices.Hold.{Hold}
use Rattle.cd_types.specs.declared.choices.Hold.TheVariants as hold
use Rattle.cd_types.specs.declared.choices.Retain.{Retain}
use Rattle.cd_types.specs.declared.choices.Retain.TheVariants as retain
use Rattle.cd_types.specs.declared.key.Key.{Key}
use Rattle.cd_types.specs.declared.rows.Placing.{Placing}
use Rattle.cd_entries.specs.declared.entry.Entry.{Entry}
use Rattle.cd_entries.specs.declared.entry.Entry.TheVariants as entry
use Rattle.cd_ast.specs.declared.process.Process.{Process}
use Rattle.cd_rules.specs.Processes.{submission, submitted, is_live, live_numbers}
use Rattle.cd_rules.specs.Queue.{placing, first_placing, by_retain, by_hold, by_start}
use Rattle.cd_rules.specs.Steps.{Reading, runs_itself, is_unretained}
use Rattle.cd_rules.specs.Legal.{is_legal, is_card_of, is_snode_of, is_filed, is_new_origin, says_interval, has_small_symbols, is_reason_in, is_hold, may_place, may_submit}
use Rattle.cd_rules.proofs.LegalLaw.{legal_parts, follows}
use Rattle.cd_rules.specs.Promises.{HavePriorities, WellPlaced}

-- the priority of a submission's first placing is that of its card
either-prty : (b : Bool) (p q : Placing) (prty : ℕ) → p.prty ≡ prty → q.prty ≡ prty → (cond b p q).prty ≡ prty
either-prty true p q prty e f = e
either-prty false p q prty e f = f

by_start-prty : (prty moment : ℕ) (start : Option ℕ) → (by_start prty moment start).prty ≡ prty
by_start-prty prty moment None = refl
by_start-prty prty moment (Some start) = either-prty (ltb moment start) _ _ prty refl refl

by_hold-prty : (card : Filed) (moment : ℕ) (held : Hold) → (by_hold card moment held).prty ≡ card.prty
by_hold-prty card moment hold.Yes = refl
by_hold-prty card moment hold.Call = refl
by_hold-prty card moment hold.No = by_start-prty card.prty moment card.start

by_retain-prty : (card : Filed) (moment : ℕ) (kept : Retain) → (by_retain card moment kept).prty ≡ card.prty
by_retain-prty card moment retain.No = by_hold-prty card moment card.hold
by_retain-prty card moment retain.Yes = refl
by_retain-prty card moment retain.Initial = refl

-- what is kept for its copies is held
by_retain-held : (card : Filed) (moment : ℕ) (kept : Retain) → (eqb (retain_code kept) 0 || is_hold (by_retain card moment kept).queue) ≡ true
by_retain-held card moment retain.No = refl
by_retain-held card moment retain.Yes = refl
by_retain-held card moment retain.Initial = refl

-- the priority of a card is that of its Process
filed_prty : (read : Reading) → HavePriorities read → (card : Filed) (text : List ℕ) (found : Option Process) → read text ≡ found → is_filed card found ≡ true
    → (1 ≤ card.prty) × (card.prty ≤ 15)
filed_prty read priorities card text None is fits = absurd (false≢true fits)
filed_prty read priorities card text (Some process) is fits =
    let own = (and_parts (is_card_of card process) (list_all (λ s. says_interval s.what && has_small_symbols s.what) process.stmts) fits).0 in
    let five = and_parts (bytes_eq card.name process.name && is_snode_of card.snode process.card.snode && eqb card.prty process.card.prty && eqb card.class process.card.class && eqb (hold_code card.hold) (hold_code process.card.hold))
    (eqb (retain_code card.retain) (retain_code process.card.retain)) own in
    let four = and_parts (bytes_eq card.name process.name && is_snode_of card.snode process.card.snode && eqb card.prty process.card.prty && eqb card.class process.card.class)
    (eqb (hold_code card.hold) (hold_code process.card.hold)) five.0 in
    let three = and_parts (bytes_eq card.name process.name && is_snode_of card.snode process.card.snode && eqb card.prty process.card.prty) (eqb card.class process.card.class) four.0 in
    let two = and_parts (bytes_eq card.name process.name && is_snode_of card.snode process.card.snode) (eqb card.prty process.card.prty) three.0 in
    let same : card.prty ≡ process.card.prty = eqb-true card.prty process.card.prty two.1 in
    let range = priorities text process is in
    (omega (arith, same, range.0), omega (arith, same, range.1))

submitted_filed : (read : Reading) (journal : List Entry) (n : ℕ) (origin : Option Key) (card : Filed) (text : List ℕ)
    → may_submit read journal n origin card text ≡ true → is_filed card (read text) ≡ true
submitted_filed read journal n origin card text fits =
    let five = and_parts (eqb n (submitted journal + 1) && leb n 99999 && ltb (length (live_numbers journal)) 4096 && leb (length text) 200000 && is_filed card (read text)) (is_new_origin journal origin) fits in
    (and_parts (eqb n (submitted journal + 1) && leb n 99999 && ltb (length (live_numbers journal)) 4096 && leb (length text) 200000) (is_filed card (read text)) five.0).1

some_same : {A : Type 0} (x y : A) → Some x ≡ Some y → x ≡ y
some_same x y e = cc

placed_well : (journal : List Entry) (n : ℕ) (placed : Placing) → may_place journal n placed ≡ true → WellPlaced (runs_itself journal n) placed
placed_well journal n placed fits =
    let four = and_parts (is_live journal n && is_reason_in placed.queue placed.reason && leb 1 placed.prty && leb placed.prty 15) (runs_itself journal n || is_hold placed.queue) fits in
    let three = and_parts (is_live journal n && is_reason_in placed.queue placed.reason && leb 1 placed.prty) (leb placed.prty 15) four.0 in
    let two = and_parts (is_live journal n && is_reason_in placed.queue placed.reason) (leb 1 placed.prty) three.0 in
    record { low = leb-true 1 placed.prty two.1; high = leb-true placed.prty 15 three.1; held = four.1 }

pub well_placed : (read : Reading) → HavePriorities read → (journal : List Entry) (n : ℕ) (placed : Placing) → is_legal read journal ≡ true
    → placing journal n ≡ Some placed → WellPlaced (runs_itself journal n) placed
unfolding placing submission
well_placed read priorities [] n placed legal is = absurd cc
well_placed read priorities (entry.Placed number p moment ∷ journal) n placed legal is =
    elim (cases_Bool (eqb number n)) [
      | inl own ↦
          let same : p ≡ placed = some_same p placed (sym (cond-true (eqb number n) (Some p) (placing journal n) own) ∙ is) in
          let well : WellPlaced (runs_itself journal number) p = placed_well journal number p (follows read _ journal legal) in
          let here : WellPlaced (runs_itself journal n) p = subst (λ (m : ℕ). WellPlaced (runs_itself journal m) p) (eqb-true number n own) well in
          subst (λ (q : Placing). WellPlaced (runs_itself journal n) q) same here
      | inr other ↦
          well_placed read priorities journal n placed (legal_parts read _ journal legal).0 (sym (cond-false (eqb number n) (Some p) (placing journal n) other) ∙ is)
    ]
well_placed read priorities (entry.Submitted number moment origin card text ∷ journal) n placed legal is =
    elim (cases_Bool (eqb number n)) [
      | inl own ↦
          let same : first_placing card moment ≡ placed = some_same (first_placing card moment) placed (sym (cond-true (eqb number n) (Some (first_placing card moment)) (placing journal n) own) ∙ is) in
          let range = filed_prty read priorities card text (read text) refl (submitted_filed read journal number origin card text (follows read _ journal legal)) in
          let prty : (first_placing card moment).prty ≡ card.prty = by_retain-prty card moment card.retain in
          let well : WellPlaced (eqb (retain_code card.retain) 0) (first_placing card moment) =
          record { low = omega (arith, prty, range.0); high = omega (arith, prty, range.1); held = by_retain-held card moment card.retain } in
          let there : WellPlaced (eqb (retain_code card.retain) 0) placed = subst (λ (q : Placing). WellPlaced (eqb (retain_code card.retain) 0) q) same well in
          subst (λ (b : Bool). WellPlaced b placed) (sym (ap is_unretained (cond-true (eqb number n) (Some (record { moment = moment; origin = origin; card = card; text = text })) (submission journal n) own))) there
      | inr other ↦
          let before = well_placed read priorities journal n placed (legal_parts read _ journal legal).0 (sym (cond-false (eqb number n) (Some (first_placing card moment)) (placing journal n) other) ∙ is) in
          subst (λ (b : Bool). WellPlaced b placed) (sym (ap is_unretained (cond-false (eqb number n) (Some (record { moment = moment; origin = origin; card = card; text = text })) (submission journal n) other))) before
    ]
well_placed read priorities (e ∷ journal) n placed legal is = well_placed read priorities journal n placed (legal_parts read _ journal legal).0 is
