-- The law of entries: what is spelled is read, and nothing else is.
use Rattle.std.proofs.Common.{◌≡◌, ℕ, ◌<◌, Bool, true, false, cond, List, [], ◌∷◌, ◌++◌, length, Option, Some, None, refl, sym, ap, subst, ◌∙◌, arith}
use Rattle.std.specs.Prelude.{◌==◌}
use Rattle.std.proofs.lemmas.Bool.{eqb-true}
use Rattle.cd_types.specs.Format.{IsBytes}
use Rattle.cd_types.specs.CompoundLaw.{IsBytes-after}
use Rattle.cd_types.specs.Compound.{IsOptional}
use Rattle.cd_types.specs.Key.{IsKey, IsPlace}
use Rattle.cd_types.specs.Layout.{Layout}
use Rattle.cd_types.specs.declared.key.Key.{Key}
use Rattle.cd_types.specs.Number.{number_bytes, number_in}
use Rattle.cd_types.specs.NumberLaw.{number_law}
use Rattle.cd_types.specs.TextLaw.{bind_some, passed}
use Rattle.cd_entries.specs.declared.entry.Entry.{Entry}
use Rattle.cd_entries.specs.declared.entry.Entry.TheVariants as entry
use Rattle.cd_entries.specs.Entry.{home_fields, submitted_fields, placed_fields, started_fields, receiving_fields, mark_fields, result_fields, ended_fields, closed_fields, forgot_fields, dropped_fields, IsEntry, IsWritable, entry_bytes, whole, home_of, submitted_of, placed_of, started_of, receiving_of, mark_of, result_of, ended_of, closed_of, forgot_of, dropped_of, kinds, of_kind, entry_of}

-- nothing behind
nothing : {A : Type 0} (xs : List A) → (length xs == 0) ≡ true → xs ≡ []
nothing [] e = refl
nothing (x ∷ xs) e = absurd (omega (arith, eqb-true (length (x ∷ xs)) 0 e))

append-nothing : (xs : List ℕ) → xs ++ [] ≡ xs
append-nothing [] = refl
append-nothing (x ∷ xs) = λ i. x ∷ append-nothing xs i

some_same : {A : Type 0} (x y : A) → Some x ≡ Some y → x ≡ y
some_same x y e = cc

module _ {A : Type 0} (make : A → Entry) (fields : Layout A) where
  -- the fields of an entry are read again
  whole_again : (x : A) → fields.Form x → whole make fields (fields.spelled x) ≡ Some (make x)
  whole_again x form =
      let read : fields.found_in (fields.spelled x ++ []) ≡ Some (x, []) = fields.law.again x [] form in
      let same : fields.found_in (fields.spelled x) ≡ Some (x, []) = ap fields.found_in (sym (append-nothing (fields.spelled x))) ∙ read in
      rw same refl

  -- a kind is read from its own bytes alone
  whole_only : (code : ℕ) → ((x : A) → entry_bytes (make x) ≡ number_bytes 1 code ++ fields.spelled x) → ((x : A) → fields.Form x → IsEntry (make x))
      → (bytes : List ℕ) (e : Entry) → IsBytes bytes → whole make fields bytes ≡ Some e → (number_bytes 1 code ++ bytes ≡ entry_bytes e) × IsEntry e
  whole_only code spelled form bytes e fit is =
      let found = bind_some (fields.found_in bytes) _ e is in
      let end = passed (length found.0.1 == 0) (make found.0.0) e found.2 in
      let read = fields.law.only bytes found.0.0 found.0.1 fit found.1 in
      let all : bytes ≡ fields.spelled found.0.0 = read.0 ∙ ap (λ (rest : List ℕ). fields.spelled found.0.0 ++ rest) (nothing found.0.1 end.0) ∙ append-nothing (fields.spelled found.0.0) in
      let made : number_bytes 1 code ++ bytes ≡ entry_bytes (make found.0.0) = ap (λ (rest : List ℕ). number_bytes 1 code ++ rest) all ∙ sym (spelled found.0.0) in
      subst (λ (x : Entry). (number_bytes 1 code ++ bytes ≡ entry_bytes x) × IsEntry x) end.1 (made, form found.0.0 read.1)

-- what is read as a kind has its byte before it
abbrev IsKind : ℕ × (List ℕ → Option Entry) → Type 0
IsKind kind = (bytes : List ℕ) (e : Entry) → IsBytes bytes → kind.1 bytes ≡ Some e → (number_bytes 1 kind.0 ++ bytes ≡ entry_bytes e) × IsEntry e

abbrev AreKinds : List (ℕ × (List ℕ → Option Entry)) → Type 0
AreKinds [] = Unit {0}
AreKinds (kind ∷ more) = IsKind kind × AreKinds more

of_kind_only : (table : List (ℕ × (List ℕ → Option Entry))) (code : ℕ) (bytes : List ℕ) (e : Entry) → AreKinds table → IsBytes bytes
    → of_kind table code bytes ≡ Some e → (number_bytes 1 code ++ bytes ≡ entry_bytes e) × IsEntry e
of_kind_only [] code bytes e each fit is = absurd cc
of_kind_only (kind ∷ more) code bytes e each fit is = by_test (code == kind.0) refl (of_kind_only more code bytes e each.1 fit) is
  where
    by_test : (b : Bool) → (code == kind.0) ≡ b → (of_kind more code bytes ≡ Some e → (number_bytes 1 code ++ bytes ≡ entry_bytes e) × IsEntry e) → cond b (kind.1 bytes) (of_kind more code bytes) ≡ Some e → (number_bytes 1 code ++ bytes ≡ entry_bytes e) × IsEntry e
    by_test true test others is = subst (λ (n : ℕ). (number_bytes 1 n ++ bytes ≡ entry_bytes e) × IsEntry e) (sym (eqb-true code kind.0 test)) (each.0 bytes e fit is)
    by_test false test others is = others is

home_kind : IsKind (1, home_of)
unfolding home_of
home_kind = whole_only (λ f. entry.Home f.0 f.1) home_fields 1 (λ _. refl) (λ _ form. form)

submitted_kind : IsKind (2, submitted_of)
unfolding submitted_of
submitted_kind = whole_only (λ f. entry.Submitted f.0 f.1.0 f.1.1.0 f.1.1.1.0 f.1.1.1.1) submitted_fields 2 (λ _. refl) (λ _ form. form)

placed_kind : IsKind (3, placed_of)
unfolding placed_of
placed_kind = whole_only (λ f. entry.Placed f.0 f.1.0 f.1.1) placed_fields 3 (λ _. refl) (λ _ form. form)

started_kind : IsKind (4, started_of)
unfolding started_of
started_kind = whole_only (λ f. entry.Started f.0 f.1.0 f.1.1.0 f.1.1.1) started_fields 4 (λ _. refl) (λ _ form. form)

receiving_kind : IsKind (5, receiving_of)
unfolding receiving_of
receiving_kind = whole_only (λ f. entry.Receiving (record { key = f.0; name = f.1.0; disp = f.1.1.0; there = f.1.1.1.0; base = f.1.1.1.1.0; length = f.1.1.1.1.1.0; interval = f.1.1.1.1.1.1 })) receiving_fields 5 (λ _. refl) (λ _ form. form)

mark_kind : IsKind (6, mark_of)
unfolding mark_of
mark_kind = whole_only (λ f. entry.Mark f.0 f.1) mark_fields 6 (λ _. refl) (λ _ form. form)

result_kind : IsKind (7, result_of)
unfolding result_of
result_kind = whole_only (λ f. entry.Result f.0 f.1.0 f.1.1) result_fields 7 (λ _. refl) (λ _ form. form)

ended_kind : IsKind (8, ended_of)
unfolding ended_of
ended_kind = whole_only (λ f. entry.Ended f.0 f.1.0 f.1.1.0 f.1.1.1.0 f.1.1.1.1.0 f.1.1.1.1.1) ended_fields 8 (λ _. refl) (λ _ form. form)

closed_kind : IsKind (9, closed_of)
unfolding closed_of
closed_kind = whole_only (λ f. entry.Closed f.0 f.1.0 f.1.1) closed_fields 9 (λ _. refl) (λ _ form. form)

forgot_kind : IsKind (10, forgot_of)
unfolding forgot_of
forgot_kind = whole_only (λ f. entry.Forgot f.0 f.1.0 f.1.1) forgot_fields 10 (λ _. refl) (λ _ form. form)

dropped_kind : IsKind (11, dropped_of)
unfolding dropped_of
dropped_kind = whole_only (λ f. entry.Dropped f.0 f.1.0 f.1.1.0 f.1.1.1) dropped_fields 11 (λ _. refl) (λ _ form. form)

are_kinds : AreKinds kinds
are_kinds = (home_kind, (submitted_kind, (placed_kind, (started_kind, (receiving_kind, (mark_kind, (result_kind, (ended_kind, (closed_kind, (forgot_kind, (dropped_kind, tt)))))))))))

-- each kind's byte
abbrev code_of : Entry → ℕ
code_of (entry.Home name home) = 1
code_of (entry.Submitted number moment origin card text) = 2
code_of (entry.Placed number placing moment) = 3
code_of (entry.Started key kind attempt moment) = 4
code_of (entry.Receiving r) = 5
code_of (entry.Mark key offset) = 6
code_of (entry.Result key outcomes moment) = 7
code_of (entry.Ended number place rc cause bytes moment) = 8
code_of (entry.Closed number how moment) = 9
code_of (entry.Forgot name home number) = 10
code_of (entry.Dropped key rc cause moment) = 11

abbrev fields_of : Entry → List ℕ
fields_of (entry.Home name home) = home_fields.spelled (name, home)
fields_of (entry.Submitted number moment origin card text) = submitted_fields.spelled (number, (moment, (origin, (card, text))))
fields_of (entry.Placed number placing moment) = placed_fields.spelled (number, (placing, moment))
fields_of (entry.Started key kind attempt moment) = started_fields.spelled (key, (kind, (attempt, moment)))
fields_of (entry.Receiving r) = receiving_fields.spelled (r.key, (r.name, (r.disp, (r.there, (r.base, (r.length, r.interval))))))
fields_of (entry.Mark key offset) = mark_fields.spelled (key, offset)
fields_of (entry.Result key outcomes moment) = result_fields.spelled (key, (outcomes, moment))
fields_of (entry.Ended number place rc cause bytes moment) = ended_fields.spelled (number, (place, (rc, (cause, (bytes, moment)))))
fields_of (entry.Closed number how moment) = closed_fields.spelled (number, (how, moment))
fields_of (entry.Forgot name home number) = forgot_fields.spelled (name, (home, number))
fields_of (entry.Dropped key rc cause moment) = dropped_fields.spelled (key, (rc, (cause, moment)))

of_kind_again : (e : Entry) → IsEntry e → of_kind kinds (code_of e) (fields_of e) ≡ Some e
unfolding home_of submitted_of placed_of started_of receiving_of mark_of result_of ended_of closed_of forgot_of dropped_of
of_kind_again (entry.Home name home) form = whole_again (λ f. entry.Home f.0 f.1) home_fields (name, home) form
of_kind_again (entry.Submitted number moment origin card text) form = whole_again (λ f. entry.Submitted f.0 f.1.0 f.1.1.0 f.1.1.1.0 f.1.1.1.1) submitted_fields (number, (moment, (origin, (card, text)))) form
of_kind_again (entry.Placed number placing moment) form = whole_again (λ f. entry.Placed f.0 f.1.0 f.1.1) placed_fields (number, (placing, moment)) form
of_kind_again (entry.Started key kind attempt moment) form = whole_again (λ f. entry.Started f.0 f.1.0 f.1.1.0 f.1.1.1) started_fields (key, (kind, (attempt, moment))) form
of_kind_again (entry.Receiving r) form = whole_again (λ f. entry.Receiving (record { key = f.0; name = f.1.0; disp = f.1.1.0; there = f.1.1.1.0; base = f.1.1.1.1.0; length = f.1.1.1.1.1.0; interval = f.1.1.1.1.1.1 })) receiving_fields (r.key, (r.name, (r.disp, (r.there, (r.base, (r.length, r.interval)))))) form
of_kind_again (entry.Mark key offset) form = whole_again (λ f. entry.Mark f.0 f.1) mark_fields (key, offset) form
of_kind_again (entry.Result key outcomes moment) form = whole_again (λ f. entry.Result f.0 f.1.0 f.1.1) result_fields (key, (outcomes, moment)) form
of_kind_again (entry.Ended number place rc cause bytes moment) form = whole_again (λ f. entry.Ended f.0 f.1.0 f.1.1.0 f.1.1.1.0 f.1.1.1.1.0 f.1.1.1.1.1) ended_fields (number, (place, (rc, (cause, (bytes, moment))))) form
of_kind_again (entry.Closed number how moment) form = whole_again (λ f. entry.Closed f.0 f.1.0 f.1.1) closed_fields (number, (how, moment)) form
of_kind_again (entry.Forgot name home number) form = whole_again (λ f. entry.Forgot f.0 f.1.0 f.1.1) forgot_fields (name, (home, number)) form
of_kind_again (entry.Dropped key rc cause moment) form = whole_again (λ f. entry.Dropped f.0 f.1.0 f.1.1.0 f.1.1.1) dropped_fields (key, (rc, (cause, moment))) form

a_byte : (e : Entry) → code_of e < 256
a_byte (entry.Home name home) = omega arith
a_byte (entry.Submitted number moment origin card text) = omega arith
a_byte (entry.Placed number placing moment) = omega arith
a_byte (entry.Started key kind attempt moment) = omega arith
a_byte (entry.Receiving r) = omega arith
a_byte (entry.Mark key offset) = omega arith
a_byte (entry.Result key outcomes moment) = omega arith
a_byte (entry.Ended number place rc cause bytes moment) = omega arith
a_byte (entry.Closed number how moment) = omega arith
a_byte (entry.Forgot name home number) = omega arith
a_byte (entry.Dropped key rc cause moment) = omega arith

bytes_are : (e : Entry) → entry_bytes e ≡ number_bytes 1 (code_of e) ++ fields_of e
bytes_are (entry.Home name home) = refl
bytes_are (entry.Submitted number moment origin card text) = refl
bytes_are (entry.Placed number placing moment) = refl
bytes_are (entry.Started key kind attempt moment) = refl
bytes_are (entry.Receiving r) = refl
bytes_are (entry.Mark key offset) = refl
bytes_are (entry.Result key outcomes moment) = refl
bytes_are (entry.Ended number place rc cause bytes moment) = refl
bytes_are (entry.Closed number how moment) = refl
bytes_are (entry.Forgot name home number) = refl
bytes_are (entry.Dropped key rc cause moment) = refl

-- what is spelled is read
pub entry_again : (e : Entry) → IsEntry e → entry_of (entry_bytes e) ≡ Some e
unfolding entry_of
entry_again e form =
    let code : number_in 1 (number_bytes 1 (code_of e) ++ fields_of e) ≡ Some (code_of e, fields_of e) = (number_law 1).again (code_of e) (fields_of e) (a_byte e) in
    ap entry_of (bytes_are e) ∙ rw code (of_kind_again e form)

-- nothing else is read
pub entry_only : (bytes : List ℕ) (e : Entry) → IsBytes bytes → entry_of bytes ≡ Some e → (bytes ≡ entry_bytes e) × IsEntry e
unfolding entry_of
entry_only bytes e fit is =
    let code = bind_some (number_in 1 bytes) _ e is in
    let front = (number_law 1).only bytes code.0.0 code.0.1 fit code.1 in
    let rest = of_kind_only kinds code.0.0 code.0.1 e are_kinds (IsBytes-after (number_bytes 1 code.0.0) code.0.1 (subst IsBytes front.0 fit)) code.2 in
    (front.0 ∙ rest.0, rest.1)

origin_place : (origin : Option Key) → IsOptional IsKey origin → IsOptional (λ step. IsPlace step.place) origin
origin_place None form = tt
origin_place (Some step) form = form.1.1.1

-- what is read can be written
pub entry_writable : (e : Entry) → IsEntry e → IsWritable e
entry_writable (entry.Home name home) form = tt
entry_writable (entry.Submitted number moment origin card text) form = (origin_place origin form.1.1.0, form.1.1.1.1)
entry_writable (entry.Placed number placing moment) form = form.1.0.1.1.0
entry_writable (entry.Started key kind attempt moment) form = form.0.1.1.1
entry_writable (entry.Receiving r) form = (form.0.1.1.1, form.1.0)
entry_writable (entry.Mark key offset) form = form.0.1.1.1
entry_writable (entry.Result key outcomes moment) form = (form.0.1.1.1, form.1.0.1.0.1)
entry_writable (entry.Ended number place rc cause bytes moment) form = form.1.1.1.0.1
entry_writable (entry.Closed number how moment) form = tt
entry_writable (entry.Forgot name home number) form = tt
entry_writable (entry.Dropped key rc cause moment) form = (form.0.1.1.1, form.1.1.0.1)
