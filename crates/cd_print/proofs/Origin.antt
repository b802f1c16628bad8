-- What a text says can be printed.
use Rattle.std.proofs.Common.{◌≡◌, ℕ, ◌+◌, ◌-◌, ◌*◌, ◌<◌, ◌≤◌, Bool, true, false, ◌&&◌, List, [], ◌∷◌, ◌++◌, length, Option, Some, None, Ok, ◌||◌, sym, ◌∙◌, append_assoc, nat_lt, nat_eq, append-nil, refl, ap, subst, arith, if◌then◌else◌, nat_le}
use Rattle.std.specs.Str.{bytes_eq}
use Rattle.std.specs.Char.{is_ascii_alphanumeric}
use Rattle.std.specs.List.{list_all, list_any}
use Rattle.std.specs.Prelude.{◌==◌}
use Rattle.std.proofs.lemmas.List.{length-map}
use Rattle.std.specs.Char.{to_ascii_uppercase}
use Rattle.cd_types.specs.FileName.{is_file_name}
use Rattle.cd_types.specs.Symbols.{upper_case, with_symbol}
use Rattle.cd_types.specs.declared.start.Day.{Day}
use Rattle.cd_ast.specs.declared.process.Stmt.{Stmt}
use Rattle.cd_ast.specs.declared.process.What.{What}
use Rattle.cd_ast.specs.declared.process.What.TheVariants as what
use Rattle.cd_grammar.specs.declared.token.Key.{Key}
use Rattle.cd_grammar.specs.declared.token.Token.{Token}
use Rattle.cd_grammar.specs.declared.token.Token.TheVariants.{Word, Quoted}
use Rattle.cd_grammar.specs.declared.token.Token.TheVariants as token
use Rattle.cd_grammar.specs.declared.given.Given.{Given}
use Rattle.cd_grammar.specs.declared.given.Slot.{Slot}
use Rattle.cd_grammar.specs.declared.given.Slot.TheVariants as slot
use Rattle.cd_grammar.specs.declared.mark.Mark.{Mark}
use Rattle.cd_grammar.specs.declared.mark.Sketch.{Sketch}
use Rattle.cd_grammar.specs.declared.mark.Sketch.TheVariants as sketch
use Rattle.cd_grammar.specs.declared.step.Begun.{Begun}
use Rattle.cd_grammar.specs.declared.step.CopyGiven.{CopyGiven}
use Rattle.cd_grammar.specs.declared.step.End.{End}
use Rattle.cd_grammar.specs.declared.step.End.TheVariants as ends
use Rattle.cd_grammar.specs.declared.step.Step.{Step}
use Rattle.cd_grammar.specs.declared.step.Work.{Work}
use Rattle.cd_grammar.specs.declared.step.Step.TheVariants as step
use Rattle.cd_grammar.specs.Answers.{Answer, Fits, Outside, Wrong, fits_as, ranged, strict, taken}
use Rattle.cd_grammar.specs.Values.{file_in, node_in, number_in, interval_in, symbol_in, is_share, is_command, are_items}
use Rattle.cd_grammar.specs.Given.{nothing, with_word, with_quoted, with_value, with_list, shared}
use Rattle.cd_grammar.specs.Reading.{Reading, stored, copied, copied_between, run, submitted, ended, given_of, with_given, with_end, with_name}
use Rattle.cd_grammar.specs.Grammar.{Place, Start, Rest, started, begun_at, opening, before_it, text_of}
use Rattle.cd_grammar.specs.Grammar as g
use Rattle.std.specs.Option.{option_map}
use Rattle.cd_types.specs.declared.start.Day.TheVariants as day
use Rattle.cd_grammar.specs.Starts.{day_in, date_in, named_days, two, are_two}
use Rattle.cd_grammar.specs.Words.{said_in, or_else, is_word}
use Rattle.cd_grammar.specs.Reading.{has_depth}
use Rattle.cd_automaton.specs.Ranges.{passes}
use Rattle.std.specs.Char.{is_ascii_digit}
use Rattle.cd_print.specs.Printable.{is_quotable, is_symbol_name, are_symbols, with_all, IsQuotable, AreQuotable, behind, AreNested, is_day, IsGoodText, HaveGoodValues, HasGoodTexts, HaveGoodTexts}

-- a text that can be quoted, of good bytes
pub record FineText (body : List ℕ) : Type 0 where
  pub quotable : is_quotable body ≡ true
  pub good : IsGoodText body

abbrev FineOption : Option (List ℕ) → Type 0
FineOption None = Unit {0}
FineOption (Some body) = FineText body

-- a token's text is so
abbrev pub IsClean : Token → Type 0
IsClean (Word at k word) = FineText word
IsClean (Quoted at text) = FineText text
IsClean (token.Mark at m) = Unit {0}

abbrev pub AreClean : List Token → Type 0
AreClean [] = Unit {0}
AreClean (t ∷ ts) = IsClean t × AreClean ts

abbrev FineGiven : Given → Type 0
FineGiven given = FineOption given.file × FineOption given.command × (passes (λ start. is_day start.day) given.start ≡ true)

abbrev FineEnd : Option Given → Type 0
FineEnd None = Unit {0}
FineEnd (Some given) = FineGiven given

-- statements between two lists of open IFs
abbrev pub Nests : List Bool → List Stmt → List Bool → Type 0
Nests ifs [] last = ifs ≡ last
Nests ifs (s ∷ stmts) last = (more : List Bool) × (behind s.what s.label ifs ≡ Some more) × Nests more stmts last

nests_more : (ifs : List Bool) (stmts : List Stmt) (last next : List Bool) (s : Stmt) → Nests ifs stmts last → behind s.what s.label last ≡ Some next → Nests ifs (stmts ++ s ∷ []) next
nests_more ifs [] last next s h e = (next, subst (λ (x : List Bool). behind s.what s.label x ≡ Some next) (sym h) e, refl)
nests_more ifs (other ∷ stmts) last next s h e = (h.0, h.1, nests_more h.0 stmts last next s h.2 e)

pub nests_are : (ifs : List Bool) (stmts : List Stmt) (last : List Bool) → Nests ifs stmts last → AreNested ifs stmts
nests_are ifs [] last h = tt
nests_are ifs (s ∷ stmts) last h = (h.0, h.1, nests_are h.0 stmts last h.2)

quotable_more : (stmts : List Stmt) (s : Stmt) → AreQuotable stmts → IsQuotable s.what → AreQuotable (stmts ++ s ∷ [])
quotable_more [] s h e = (e, tt)
quotable_more (other ∷ stmts) s h e = (h.0, quotable_more stmts s h.1 e)

texts_more : (stmts : List Stmt) (s : Stmt) → HaveGoodTexts stmts → HasGoodTexts s.what → HaveGoodTexts (stmts ++ s ∷ [])
texts_more [] s h e = (e, tt)
texts_more (other ∷ stmts) s h e = (h.0, texts_more stmts s h.1 e)

values_more : (pairs : List (List ℕ × List ℕ)) (n v : List ℕ) → HaveGoodValues pairs → IsGoodText v → HaveGoodValues (with_symbol pairs n v)
values_more [] n v h e = (e, tt)
values_more (pair ∷ pairs) n v h e = by_bool (bytes_eq n pair.0) (values_more pairs n v h.1 e)
  where
    by_bool : (t : Bool) → HaveGoodValues (with_symbol pairs n v) → HaveGoodValues (if t then (pair.0, v) ∷ pairs else pair ∷ with_symbol pairs n v)
    by_bool true k = (e, h.1)
    by_bool false k = (h.0, k)

-- symbols have names of their own, in upper case
abbrev has_name : List ℕ → List (List ℕ × List ℕ) → Bool
has_name name pairs = list_any (λ other. bytes_eq name other.0) pairs

abbrev AreOwn : List (List ℕ × List ℕ) → Type 0
AreOwn [] = Unit {0}
AreOwn (pair ∷ pairs) = (has_name pair.0 pairs ≡ false) × (upper_case pair.0 ≡ pair.0) × AreOwn pairs

abbrev FineSymbols : List (List ℕ × List ℕ) → Type 0
FineSymbols pairs = (are_symbols pairs ≡ true) × AreOwn pairs

eq_turned : (a b : ℕ) → nat_eq a b ≡ nat_eq b a
eq_turned a b = grind arith

bytes_turned : (a b : List ℕ) → bytes_eq a b ≡ bytes_eq b a
bytes_turned [] [] = refl
bytes_turned [] (y ∷ b) = refl
bytes_turned (x ∷ a) [] = refl
bytes_turned (x ∷ a) (y ∷ b) = rw (eq_turned x y) (rw (bytes_turned a b) refl)

left_is : (a b : Bool) → (a || b) ≡ false → a ≡ false
left_is true b e = absurd cc
left_is false b e = refl

right_is : (a b : Bool) → (a || b) ≡ false → b ≡ false
right_is true b e = absurd cc
right_is false b e = e

neither : (a b : Bool) → a ≡ false → b ≡ false → (a || b) ≡ false
neither true b e e2 = absurd cc
neither false b e e2 = e2

has_with : (name : List ℕ) (pairs : List (List ℕ × List ℕ)) (n v : List ℕ) → has_name name pairs ≡ false → bytes_eq name n ≡ false → has_name name (with_symbol pairs n v) ≡ false
has_with name [] n v e e2 = neither (bytes_eq name n) false e2 refl
has_with name (pair ∷ pairs) n v e e2 =
    by_bool (bytes_eq n pair.0) (left_is (bytes_eq name pair.0) _ e) (right_is (bytes_eq name pair.0) _ e) (has_with name pairs n v (right_is (bytes_eq name pair.0) _ e) e2)
  where
    by_bool : (t : Bool) → bytes_eq name pair.0 ≡ false → has_name name pairs ≡ false → has_name name (with_symbol pairs n v) ≡ false → has_name name (if t then (pair.0, v) ∷ pairs else pair ∷ with_symbol pairs n v) ≡ false
    by_bool true f f2 f3 = neither (bytes_eq name pair.0) _ f f2
    by_bool false f f2 f3 = neither (bytes_eq name pair.0) _ f f3

own_more : (pairs : List (List ℕ × List ℕ)) (n v : List ℕ) → AreOwn pairs → upper_case n ≡ n → AreOwn (with_symbol pairs n v)
own_more [] n v h e = (refl, e, tt)
own_more (pair ∷ pairs) n v h e = by_bool (bytes_eq n pair.0) refl (own_more pairs n v h.2 e)
  where
    by_bool : (t : Bool) → bytes_eq n pair.0 ≡ t → AreOwn (with_symbol pairs n v) → AreOwn (if t then (pair.0, v) ∷ pairs else pair ∷ with_symbol pairs n v)
    by_bool true f g2 = h
    by_bool false f g2 = (has_with pair.0 pairs n v h.0 (bytes_turned pair.0 n ∙ f), h.1, g2)

both_are : (a b : Bool) → a ≡ true → b ≡ true → (a && b) ≡ true
both_are true b e e2 = e2
both_are false b e e2 = absurd cc

first_is : (a b : Bool) → (a && b) ≡ true → a ≡ true
first_is true b e = refl
first_is false b e = absurd cc

second_is : (a b : Bool) → (a && b) ≡ true → b ≡ true
second_is true b e = e
second_is false b e = absurd cc

symbols_more : (pairs : List (List ℕ × List ℕ)) (n v : List ℕ) → are_symbols pairs ≡ true → is_symbol_name n ≡ true → is_quotable v ≡ true → are_symbols (with_symbol pairs n v) ≡ true
symbols_more [] n v h e e2 = both_are _ true (both_are (is_symbol_name n) (is_quotable v) e e2) refl
symbols_more (pair ∷ pairs) n v h e e2 = by_bool (bytes_eq n pair.0) (first_is (is_symbol_name pair.0 && is_quotable pair.1) _ h) (second_is (is_symbol_name pair.0 && is_quotable pair.1) _ h) (symbols_more pairs n v (second_is (is_symbol_name pair.0 && is_quotable pair.1) _ h) e e2)
  where
    by_bool : (t : Bool) → (is_symbol_name pair.0 && is_quotable pair.1) ≡ true → are_symbols pairs ≡ true → are_symbols (with_symbol pairs n v) ≡ true → are_symbols (if t then (pair.0, v) ∷ pairs else pair ∷ with_symbol pairs n v) ≡ true
    by_bool true f f2 f3 = both_are (is_symbol_name pair.0 && is_quotable v) (are_symbols pairs) (both_are (is_symbol_name pair.0) (is_quotable v) (first_is (is_symbol_name pair.0) _ f) e2) f2
    by_bool false f f2 f3 = both_are (is_symbol_name pair.0 && is_quotable pair.1) (are_symbols (with_symbol pairs n v)) f f3

-- given one after the other they are the same
absent : (xs : List (List ℕ × List ℕ)) (n v : List ℕ) → has_name n xs ≡ false → with_symbol xs n v ≡ xs ++ (n, v) ∷ []
absent [] n v e = refl
absent (x ∷ xs) n v e = rw (left_is (bytes_eq n x.0) _ e) (ap (λ (ys : List (List ℕ × List ℕ)). x ∷ ys) (absent xs n v (right_is (bytes_eq n x.0) _ e)))

ahead : (xs : List (List ℕ × List ℕ)) (pair : List ℕ × List ℕ) (pairs : List (List ℕ × List ℕ)) → AreOwn (xs ++ pair ∷ pairs) → has_name pair.0 xs ≡ false
ahead [] pair pairs h = refl
ahead (x ∷ xs) pair pairs h = neither (bytes_eq pair.0 x.0) (has_name pair.0 xs) (bytes_turned pair.0 x.0 ∙ among xs h.0) (ahead xs pair pairs h.2)
  where
    among : (ys : List (List ℕ × List ℕ)) → has_name x.0 (ys ++ pair ∷ pairs) ≡ false → bytes_eq x.0 pair.0 ≡ false
    among [] e = left_is (bytes_eq x.0 pair.0) _ e
    among (y ∷ ys) e = among ys (right_is (bytes_eq x.0 y.0) _ e)

own_upper : (xs : List (List ℕ × List ℕ)) (pair : List ℕ × List ℕ) (pairs : List (List ℕ × List ℕ)) → AreOwn (xs ++ pair ∷ pairs) → upper_case pair.0 ≡ pair.0
own_upper [] pair pairs h = h.1
own_upper (x ∷ xs) pair pairs h = own_upper xs pair pairs h.2

all_same : (xs pairs : List (List ℕ × List ℕ)) → AreOwn (xs ++ pairs) → with_all xs pairs ≡ xs ++ pairs
all_same xs [] h = sym (append-nil xs)
all_same xs (pair ∷ pairs) h =
    let one : with_symbol xs (upper_case pair.0) pair.1 ≡ xs ++ pair ∷ [] = ap (λ (n : List ℕ). with_symbol xs n pair.1) (own_upper xs pair pairs h) ∙ absent xs pair.0 pair.1 (ahead xs pair pairs h) in
    let whole : (xs ++ pair ∷ []) ++ pairs ≡ xs ++ pair ∷ pairs = append_assoc xs (pair ∷ []) pairs in
    ap (λ (ys : List (List ℕ × List ℕ)). with_all ys pairs) one ∙ (all_same (xs ++ pair ∷ []) pairs (subst (λ (ys : List (List ℕ × List ℕ)). AreOwn ys) (sym whole) h) ∙ whole)

-- a name in upper case
upper_twice : (b : ℕ) → to_ascii_uppercase (to_ascii_uppercase b) ≡ to_ascii_uppercase b
upper_twice b = by_bools (nat_lt b 97) (nat_lt b 123) refl refl
  where
    by_bools : (s t : Bool) → nat_lt b 97 ≡ s → nat_lt b 123 ≡ t → to_ascii_uppercase (to_ascii_uppercase b) ≡ to_ascii_uppercase b
    by_bools true t p q = rw p (rw p refl)
    by_bools false false p q = rw p (rw q (rw p (rw q refl)))
    by_bools false true p q = let low : nat_lt (b - 32) 97 ≡ true = grind arith in rw p (rw q (rw low refl))

uppers_twice : (name : List ℕ) → upper_case (upper_case name) ≡ upper_case name
uppers_twice [] = refl
uppers_twice (b ∷ name) = rw (upper_twice b) (ap (λ (x : List ℕ). to_ascii_uppercase b ∷ x) (uppers_twice name))

any_of : (a c : Bool) → ((a && false) || true || c) ≡ true
any_of true c = refl
any_of false c = refl

alnum_upper : (b : ℕ) → is_ascii_alphanumeric b ≡ true → is_ascii_alphanumeric (to_ascii_uppercase b) ≡ true
alnum_upper b e = by_bools (nat_lt b 97) (nat_lt b 123) refl refl
  where
    by_bools : (s t : Bool) → nat_lt b 97 ≡ s → nat_lt b 123 ≡ t → is_ascii_alphanumeric (to_ascii_uppercase b) ≡ true
    by_bools true t p q = rw p e
    by_bools false false p q = rw p (rw q e)
    by_bools false true p q =
        let digit : nat_le (b - 32) 57 ≡ false = grind arith in
        let low : nat_le 65 (b - 32) ≡ true = grind arith in
        let high : nat_le (b - 32) 90 ≡ true = grind arith in
        rw p (rw q (rw digit (rw low (rw high (any_of (nat_le 48 (b - 32)) (nat_le 97 (b - 32) && nat_le (b - 32) 122))))))

alnums_upper : (name : List ℕ) → list_all is_ascii_alphanumeric name ≡ true → list_all is_ascii_alphanumeric (upper_case name) ≡ true
alnums_upper [] e = refl
alnums_upper (b ∷ name) e = both_are _ _ (alnum_upper b (first_is (is_ascii_alphanumeric b) _ e)) (alnums_upper name (second_is (is_ascii_alphanumeric b) _ e))

symbol_upper : (name : List ℕ) → is_symbol_name name ≡ true → is_symbol_name (upper_case name) ≡ true
symbol_upper name e =
    let long : length (upper_case name) ≡ length name = length-map name to_ascii_uppercase in
    both_are (nat_le 1 (length (upper_case name)) && nat_le (length (upper_case name)) 17) _ (ap (λ (n : ℕ). nat_le 1 n && nat_le n 17) long ∙ first_is _ (list_all is_ascii_alphanumeric name) e)
    (alnums_upper name (second_is (nat_le 1 (length name) && nat_le (length name) 17) _ e))

-- marks of statements
abbrev pub IsSketchOf : Sketch → What → Type 0
IsSketchOf (sketch.Copy alike) (what.Copy copy) = Unit {0}
IsSketchOf sketch.Action (what.Task task) = Unit {0}
IsSketchOf sketch.Action (what.Submit submit) = Unit {0}
IsSketchOf (sketch.If at name) (what.If label rel n) = name ≡ label
IsSketchOf sketch.Else what.Else = Unit {0}
IsSketchOf sketch.Eif what.Eif = Unit {0}
IsSketchOf (sketch.Goto at name) (what.Goto label) = name ≡ label
IsSketchOf sketch.Exit what.Exit = Unit {0}
IsSketchOf _ _ = ⊥

pub record IsMarked (mark : Mark) (stmt : Stmt) : Type 0 where
  pub label : option_map (λ found. found.1) mark.label ≡ stmt.label
  pub said : IsSketchOf mark.what stmt.what

abbrev pub AreMarked : List Mark → List Stmt → Type 0
AreMarked [] [] = Unit {0}
AreMarked [] (stmt ∷ stmts) = ⊥
AreMarked (mark ∷ marks) [] = ⊥
AreMarked (mark ∷ marks) (stmt ∷ stmts) = IsMarked mark stmt × AreMarked marks stmts

marked_more : (ms : List Mark) (stmts : List Stmt) (mark : Mark) (stmt : Stmt) → AreMarked ms stmts → IsMarked mark stmt → AreMarked (ms ++ mark ∷ []) (stmts ++ stmt ∷ [])
marked_more [] [] mark stmt h e = (e, tt)
marked_more [] (s ∷ stmts) mark stmt h e = absurd h
marked_more (m ∷ ms) [] mark stmt h e = absurd h
marked_more (m ∷ ms) (s ∷ stmts) mark stmt h e = (h.0, marked_more ms stmts mark stmt h.1 e)

pub record FineReading (r : Reading) : Type 0 where
  pub marks : AreMarked r.marks r.stmts
  pub stmts : AreQuotable r.stmts
  pub texts : HaveGoodTexts r.stmts
  pub values : HaveGoodValues r.symbols
  pub symbols : FineSymbols r.symbols
  pub nested : Nests [] r.stmts r.ifs
  pub start : passes (λ start. is_day start.day) r.head.start ≡ true

abbrev FineStep : Step → Type 0
FineStep (step.Head given) = FineGiven given
FineStep step.Between = Unit {0}
FineStep (step.Copy begun copy) = FineEnd copy.from × FineEnd copy.to × FineGiven copy.others
FineStep (step.Group begun copy end given) = (FineEnd copy.from × FineEnd copy.to × FineGiven copy.others) × FineGiven given
FineStep (step.Run begun w given) = FineGiven given
FineStep (step.RunGroup begun w given) = FineGiven given
FineStep (step.Submit begun given) = FineGiven given

abbrev FinePlace : Place → Type 0
FinePlace Start = Unit {0}
FinePlace (g.At r s) = FineReading r × FineStep s
FinePlace (g.Labelled r at label) = FineReading r
FinePlace (g.Values r s) = FineReading r × FineStep s
FinePlace (g.Pairs r s) = FineReading r × FineStep s
FinePlace (g.Starting r given) = FineReading r × FineGiven given
FinePlace (g.Timing r given day) = FineReading r × FineGiven given × (is_day day ≡ true)

fits_is : {A : Type 0} (x y : A) → Fits x ≡ Fits y → x ≡ y
fits_is x y e = cc

taken_fits : {A : Type 0} (answer : Answer A) (x : A) → taken true answer ≡ Ok x → answer ≡ Fits x
taken_fits (Fits y) x e = let same : y ≡ x = cc in fits_at same
  where
    fits_at : {A : Type 0} {x y : A} → x ≡ y → Fits x ≡ Fits y
    fits_at {A} e2 = ap (λ (z : A). Fits z) e2
taken_fits (Outside y) x e = absurd cc
taken_fits Wrong x e = absurd cc

by_answer : {A : Type 0} (answer : Answer A) (f : A → Given) (x : Given) → ((v : A) → FineGiven (f v)) → fits_as f answer ≡ Fits x → FineGiven x
by_answer (Fits v) f x k e = subst (λ (z : Given). FineGiven z) (fits_is (f v) x e) (k v)
by_answer (Outside v) f x k e = absurd cc
by_answer Wrong f x k e = absurd cc

by_same : (v x : Given) → FineGiven v → Fits v ≡ Fits x → FineGiven x
by_same v x k e = subst (λ (z : Given). FineGiven z) (fits_is v x e) k

by_ranged : (b : Bool) (v x : Given) → FineGiven v → ranged b v ≡ Fits x → FineGiven x
by_ranged true v x k e = by_same v x k e
by_ranged false v x k e = absurd cc

by_test : (b : Bool) (bytes : List ℕ) (f : List ℕ → Given) (x : Given) → FineGiven (f bytes) → fits_as f (ranged b bytes) ≡ Fits x → FineGiven x
by_test true bytes f x k e = subst (λ (z : Given). FineGiven z) (fits_is (f bytes) x e) k
by_test false bytes f x k e = absurd cc

by_file : (bytes : List ℕ) (f : List ℕ → Given) (x : Given) → FineGiven (f bytes) → fits_as f (file_in bytes) ≡ Fits x → FineGiven x
unfolding file_in
by_file bytes f x k e = by_test (is_file_name bytes) bytes f x k e

by_share : (given : Given) (b : Bool) (x : Given) → FineGiven given → shared given b ≡ Fits x → FineGiven x
by_share given true x k e = by_same (record given { share = true }) x k e
by_share given false x k e = absurd cc

word_fine : (given : Given) (set : Slot) (at : ℕ) (k : Key) (word : List ℕ) (x : Given) → FineGiven given → FineText word → with_word given set at k word ≡ Fits x → FineGiven x
unfolding with_word
word_fine given slot.Snode at k word x h q e = by_answer (node_in word) _ x (λ v. h) e
word_fine given slot.Prty at k word x h q e = by_answer (number_in 1 15 word) _ x (λ v. h) e
word_fine given slot.Class at k word x h q e = by_answer (number_in 1 255 word) _ x (λ v. h) e
word_fine given slot.Hold at k word x h q e = by_answer _ _ x (λ v. h) e
word_fine given slot.Retain at k word x h q e = by_answer _ _ x (λ v. h) e
word_fine given slot.Start at k word x h q e = absurd cc
word_fine given slot.Pacct at k word x h q e = by_same _ x h e
word_fine given slot.Sacct at k word x h q e = by_same _ x h e
word_fine given slot.Notify at k word x h q e = by_same _ x h e
word_fine given slot.Pnodeid at k word x h q e = by_same _ x h e
word_fine given slot.Snodeid at k word x h q e = by_same _ x h e
word_fine given slot.File at k word x h q e = by_file word _ x (q, h.1, h.2) e
word_fine given slot.Side at k word x h q e = by_answer _ _ x (λ v. h) e
word_fine given slot.Items at k word x h q e = absurd cc
word_fine given slot.Command at k word x h q e = absurd cc
word_fine given slot.Share at k word x h q e = by_share given (is_share word) x h e
word_fine given slot.Disp at k word x h q e = by_answer _ _ x (λ v. h) e
word_fine given slot.Ckpt at k word x h q e = by_answer (interval_in word) _ x (λ v. h) e
word_fine given slot.Restart at k word x h q e = by_answer _ _ x (λ v. h) e
word_fine given slot.Pgm at k word x h q e = by_same _ x h e
word_fine given slot.Library at k word x h q e = by_same _ x h e

quoted_fine : (given : Given) (set : Slot) (text : List ℕ) (x : Given) → FineGiven given → FineText text → with_quoted given set text ≡ Fits x → FineGiven x
unfolding with_quoted
quoted_fine given slot.File text x h q e = by_file text _ x (q, h.1, h.2) e
quoted_fine given slot.Items text x h q e = by_ranged (are_items text) (record given { items = true }) x h e
quoted_fine given slot.Command text x h q e = by_ranged (is_command text) (record given { command = Some text }) x (h.0, q, h.2) e
quoted_fine given slot.Pacct text x h q e = by_same _ x h e
quoted_fine given slot.Sacct text x h q e = by_same _ x h e
quoted_fine given slot.Notify text x h q e = by_same _ x h e
quoted_fine given slot.Pnodeid text x h q e = by_same _ x h e
quoted_fine given slot.Snodeid text x h q e = by_same _ x h e
quoted_fine given _ text x h q e = absurd cc

value_fine : (given : Given) (set : Slot) (at : ℕ) (t : Token) (x : Given) → FineGiven given → IsClean t → taken true (with_value given set at t) ≡ Ok x → FineGiven x
value_fine given set at (Word at2 k word) x h q e = word_fine given set at k word x h q (taken_fits (with_word given set at k word) x e)
value_fine given set at (Quoted at2 text) x h q e = quoted_fine given set text x h q (taken_fits (with_quoted given set text) x e)
value_fine given set at (token.Mark at2 m) x h q e = absurd cc

list_fine : (given : Given) (set : Slot) → FineGiven given → FineGiven (with_list given set)
unfolding with_list
list_fine given slot.Pacct h = h
list_fine given slot.Sacct h = h
list_fine given slot.Notify h = h
list_fine given slot.Pnodeid h = h
list_fine given slot.Snodeid h = h
list_fine given _ h = h

nothing_fine : FineGiven nothing
nothing_fine = (tt, tt, refl)

given_fine : (s : Step) → FineStep s → FineGiven (given_of s)
given_fine (step.Head given) h = h
given_fine step.Between h = nothing_fine
given_fine (step.Copy begun copy) h = h.2
given_fine (step.Group begun copy end given) h = h.1
given_fine (step.Run begun w given) h = h
given_fine (step.RunGroup begun w given) h = h
given_fine (step.Submit begun given) h = h

with_fine : (s : Step) (later : Given) → FineStep s → FineGiven later → FineStep (with_given s later)
with_fine (step.Head given) later h e = e
with_fine step.Between later h e = tt
with_fine (step.Copy begun copy) later h e = (h.0, h.1, e)
with_fine (step.Group begun copy end given) later h e = (h.0, e)
with_fine (step.Run begun w given) later h e = e
with_fine (step.RunGroup begun w given) later h e = e
with_fine (step.Submit begun given) later h e = e

end_fine : (copy : CopyGiven) (end : End) (given : Given) → FineEnd copy.from × FineEnd copy.to × FineGiven copy.others → FineGiven given → FineEnd (with_end copy end given).from × FineEnd (with_end copy end given).to × FineGiven (with_end copy end given).others
end_fine copy ends.From given h e = (e, h.1, h.2)
end_fine copy ends.To given h e = (h.0, e, h.2)

-- a statement more
record FineWhat (said : What) : Type 0 where
  quotable : IsQuotable said
  good : HasGoodTexts said

stored_fine : (r : Reading) (begun : Begun) (sketched : Sketch) (said : What) (opened : List Bool) → IsSketchOf sketched said → FineReading r → FineWhat said → behind said (option_map (λ found. found.1) begun.label) r.ifs ≡ Some opened → FineReading (record (stored r begun sketched said) { ifs = opened })
stored_fine r begun sketched said opened like h q e = record {
  marks = marked_more r.marks r.stmts (record { label = begun.label; at = begun.at; what = sketched }) (record { label = option_map (λ found. found.1) begun.label; what = said }) h.marks (record { label = refl; said = like });
  stmts = quotable_more r.stmts _ h.stmts q.quotable;
  texts = texts_more r.stmts _ h.texts q.good;
  values = tt;
  symbols = (refl, tt);
  nested = nests_more [] r.stmts r.ifs opened _ h.nested e;
  start = h.start;
}

same_reading : (a b : Reading) → Some a ≡ Some b → a ≡ b
same_reading a b e = cc

store : (r before : Reading) (begun : Begun) (sketched : Sketch) (said : What) → IsSketchOf sketched said → FineReading r → FineWhat said → behind said (option_map (λ found. found.1) begun.label) r.ifs ≡ Some r.ifs → Some (stored r begun sketched said) ≡ Some before → FineReading before
store r before begun sketched said like h q e e2 = subst (λ (x : Reading). FineReading x) (same_reading _ before e2) (stored_fine r begun sketched said r.ifs like h q e)

copied_fine : (r : Reading) (begun : Begun) (from to : Given) (ckpt : Option ℕ) (a b : Option (List ℕ)) (before : Reading) → FineReading r → FineOption a → FineOption b → copied r begun from to ckpt a b ≡ Some before → FineReading before
copied_fine r begun from to ckpt (Some a) (Some b) before h ha hb e = store r before begun _ _ tt h (record { quotable = (ha.quotable, hb.quotable); good = (ha.good, hb.good) }) refl e
copied_fine r begun from to ckpt None b before h ha hb e = absurd cc
copied_fine r begun from to ckpt (Some a) None before h ha hb e = absurd cc

between_fine : (r : Reading) (begun : Begun) (ckpt : Option ℕ) (a b : Option Given) (before : Reading) → FineReading r → FineEnd a → FineEnd b → copied_between r begun ckpt a b ≡ Some before → FineReading before
between_fine r begun ckpt (Some from) (Some to) before h ha hb e = copied_fine r begun from to ckpt from.file to.file before h ha.0 hb.0 e
between_fine r begun ckpt None b before h ha hb e = absurd cc
between_fine r begun ckpt (Some from) None before h ha hb e = absurd cc

run_fine : (r : Reading) (begun : Begun) (w : Work) (given : Given) (o : Option (List ℕ)) (before : Reading) → FineReading r → FineOption o → run r begun w given o ≡ Some before → FineReading before
run_fine r begun w given (Some command) before h q e = store r before begun _ _ tt h (record { quotable = q.quotable; good = q.good }) refl e
run_fine r begun w given None before h q e = absurd cc

submitted_fine : (r : Reading) (begun : Begun) (given : Given) (o : Option (List ℕ)) (before : Reading) → FineReading r → FineOption o → submitted r begun given o ≡ Some before → FineReading before
submitted_fine r begun given (Some file) before h q e = store r before begun _ _ tt h (record { quotable = (q.quotable, h.symbols.0, all_same [] r.symbols h.symbols.1); good = (q.good, h.values) }) refl e
submitted_fine r begun given None before h q e = absurd cc

ended_fine : (r before : Reading) (s : Step) → FineReading r → FineStep s → ended r s ≡ Some before → FineReading before
unfolding ended
ended_fine r before (step.Head given) h f e = subst (λ (x : Reading). FineReading x) (same_reading _ before e) (record { marks = h.marks; stmts = h.stmts; texts = h.texts; values = h.values; symbols = h.symbols; nested = h.nested; start = f.2 })
ended_fine r before step.Between h f e = subst (λ (x : Reading). FineReading x) (same_reading _ before e) h
ended_fine r before (step.Copy begun copy) h f e = between_fine r begun copy.others.ckpt copy.from copy.to before h f.0 f.1 e
ended_fine r before (step.Group begun copy end given) h f e = absurd cc
ended_fine r before (step.Run begun w given) h f e = run_fine r begun w given given.command before h f.1 e
ended_fine r before (step.RunGroup begun w given) h f e = absurd cc
ended_fine r before (step.Submit begun given) h f e = submitted_fine r begun given given.file before h f.0 e

abbrev Opened : Type 0
Opened = Option (ℕ × List ℕ) × Reading

abbrev opened_as : Option (ℕ × List ℕ) → Reading → Opened
opened_as label r = (label, r)

same_opened : (a b : Opened) → Some a ≡ Some b → a ≡ b
same_opened a b e = cc

opened_at : (r : Reading) (s : Step) (o : Option Reading) (label : Option (ℕ × List ℕ)) (before : Reading) → FineReading r → FineStep s → ended r s ≡ o → before_it None o ≡ Some (opened_as label before) → FineReading before
opened_at r s (Some other) label before h f e e2 =
    subst (λ (p : Opened). FineReading p.1) (same_opened (opened_as None other) (opened_as label before) e2) (ended_fine r other s h f e)
opened_at r s None label before h f e e2 = absurd cc

opening_fine : (p : Place) (label : Option (ℕ × List ℕ)) (before : Reading) → FinePlace p → opening p ≡ Some (opened_as label before) → FineReading before
opening_fine Start label before h e = absurd cc
opening_fine (g.At r s) label before h e = opened_at r s (ended r s) label before h.0 h.1 refl e
opening_fine (g.Labelled r at name) label before h e = subst (λ (p : Opened). FineReading p.1) (same_opened (opened_as (Some (at, name)) r) (opened_as label before) e) h
opening_fine (g.Values r s) label before h e = absurd cc
opening_fine (g.Pairs r s) label before h e = absurd cc
opening_fine (g.Starting r given) label before h e = absurd cc
opening_fine (g.Timing r given day) label before h e = absurd cc

-- days that are read can be written
same_day : (x y : Day) → Some x ≡ Some y → x ≡ y
same_day x y e = cc

by_entry : (t : Bool) (x d : Day) (o : Option Day) → is_day x ≡ true → (o ≡ Some d → is_day d ≡ true) → (if t then Some x else o) ≡ Some d → is_day d ≡ true
by_entry true x d o e k f = subst (λ (y : Day). is_day y ≡ true) (same_day x d f) e
by_entry false x d o e k f = k f

days_said : (entries : List (List ℕ × Day)) (word : List ℕ) (d : Day) → list_all (λ entry. is_day entry.1) entries ≡ true → said_in entries word ≡ Some d → is_day d ≡ true
unfolding said_in
days_said [] word d e said = absurd cc
days_said (entry ∷ entries) word d e said = by_entry (is_word word entry.0) entry.1 d _ (first_is (is_day entry.1) _ e) (λ f. days_said entries word d (second_is (is_day entry.1) _ e) f) said

up_to : (a b : ℕ) → nat_le a b ≡ true → a ≤ b
up_to a b e = grind arith

two_small : (a b : ℕ) → are_two a b ≡ true → two a b < 100
unfolding are_two two
two_small a b e =
    let one : a ≤ 57 = up_to a 57 (second_is (nat_le 48 a) _ (first_is (is_ascii_digit a) _ e)) in
    let other : b ≤ 57 = up_to b 57 (second_is (nat_le 48 b) _ (second_is (is_ascii_digit a) _ e)) in
    omega arith

less : (a b : ℕ) → a < b → nat_lt a b ≡ true
less a b e = grind arith

if_day : (b : Bool) (x d : Day) → (if b then Some x else None) ≡ Some d → (b ≡ true) × (x ≡ d)
if_day true x d e = (refl, same x d e)
  where
    same : (u v : Day) → Some u ≡ Some v → u ≡ v
    same u v f = cc
if_day false x d e = absurd cc

date_day : (word : List ℕ) (found : Day) → date_in word ≡ Some found → is_day found ≡ true
unfolding date_in
date_day (m ∷ n ∷ s ∷ d ∷ e ∷ t ∷ x ∷ y ∷ z ∷ w ∷ []) found said =
    let is : ((are_two m n && s == 47 && are_two d e && t == 47 && are_two x y && are_two z w) ≡ true) × (day.Date (100 * two x y + two z w) (two m n) (two d e) ≡ found) = if_day (are_two m n && s == 47 && are_two d e && t == 47 && are_two x y && are_two z w) (day.Date (100 * two x y + two z w) (two m n) (two d e)) found said in
    let five : (are_two m n && s == 47 && are_two d e && t == 47 && are_two x y) ≡ true = first_is _ (are_two z w) is.0 in
    let four : (are_two m n && s == 47 && are_two d e && t == 47) ≡ true = first_is _ (are_two x y) five in
    let three : (are_two m n && s == 47 && are_two d e) ≡ true = first_is _ (t == 47) four in
    let month : two m n < 100 = two_small m n (first_is _ (s == 47) (first_is _ (are_two d e) three)) in
    let daily : two d e < 100 = two_small d e (second_is (are_two m n && s == 47) _ three) in
    let high : two x y < 100 = two_small x y (second_is (are_two m n && s == 47 && are_two d e && t == 47) _ five) in
    let low : two z w < 100 = two_small z w (second_is (are_two m n && s == 47 && are_two d e && t == 47 && are_two x y) _ is.0) in
    subst (λ (v : Day). is_day v ≡ true) is.1 (both_are (nat_lt (100 * two x y + two z w) 10000 && nat_lt (two m n) 100) _ (both_are (nat_lt (100 * two x y + two z w) 10000) _ (less _ 10000 (omega arith)) (less _ 100 month)) (less _ 100 daily))
date_day _ found said = absurd cc

day_is : (word : List ℕ) (d : Day) → day_in word ≡ Some d → is_day d ≡ true
unfolding day_in
day_is word d e = by_option (said_in named_days word) refl e
  where
    same : (x y : Day) → Some x ≡ Some y → x ≡ y
    same x y f = cc

    by_option : (o : Option Day) → said_in named_days word ≡ o → or_else o (date_in word) ≡ Some d → is_day d ≡ true
    by_option (Some x) f g2 = subst (λ (y : Day). is_day y ≡ true) (same x d g2) (days_said named_days word x refl f)
    by_option None f g2 = date_day word d g2

-- what is read of the tokens
symbol_fine : (r : Reading) (s : Step) (name text : List ℕ) → FineReading r → is_symbol_name name ≡ true → FineText text → FineReading (with_name r s (upper_case name) text)
symbol_fine r (step.Submit begun given) name text h e q = record {
  marks = h.marks;
  stmts = h.stmts;
  texts = h.texts;
  values = values_more r.symbols (upper_case name) text h.values q.good;
  symbols = (symbols_more r.symbols (upper_case name) text h.symbols.0 (symbol_upper name e) q.quotable, own_more r.symbols (upper_case name) text h.symbols.1 (uppers_twice name));
  nested = h.nested;
  start = h.start;
}
symbol_fine r (step.Head given) name text h e q = h
symbol_fine r step.Between name text h e q = h
symbol_fine r (step.Copy begun copy) name text h e q = h
symbol_fine r (step.Group begun copy end given) name text h e q = h
symbol_fine r (step.Run begun w given) name text h e q = h
symbol_fine r (step.RunGroup begun w given) name text h e q = h

symbol_by : (a c : Bool) (name x : List ℕ) → is_symbol_name name ≡ a → (if c then ranged a name else Wrong) ≡ Fits x → is_symbol_name x ≡ true
symbol_by true true name x is e = subst (λ (y : List ℕ). is_symbol_name y ≡ true) (fits_is name x e) is
symbol_by false true name x is e = absurd cc
symbol_by a false name x is e = absurd cc

symbol_name : (word name : List ℕ) → symbol_in word ≡ Fits name → is_symbol_name name ≡ true
unfolding symbol_in
symbol_name [] name e = absurd cc
symbol_name (b ∷ bytes) name e = symbol_by (is_symbol_name bytes) (b == 38) bytes name refl e

text_clean : (value : Token) (text : List ℕ) → IsClean value → text_of value ≡ Some text → FineText text
text_clean (Word at k word) text h e = let same : word ≡ text = cc in subst (λ (x : List ℕ). FineText x) same h
text_clean (Quoted at bytes) text h e = let same : bytes ≡ text = cc in subst (λ (x : List ℕ). FineText x) same h
text_clean (token.Mark at m) text h e = absurd cc

deep_if : (before : Reading) (at : ℕ) (ifs : List Bool) → has_depth strict at before ≡ true → (if nat_lt (length before.ifs) 16 then Some ifs else None) ≡ Some ifs
deep_if before at ifs e = rw e refl

pub all_fine : {p : Place} {ts : List Token} {all : Reading} → Rest strict p ts all → AreClean ts → FinePlace p → FineReading all
all_fine (g.process e rest) q h = all_fine rest q.1.1 (record { marks = tt; stmts = tt; texts = tt; values = tt; symbols = (refl, tt); nested = refl; start = refl }, nothing_fine)
all_fine (g.param {step = s} {at = at} {set = set} {value = value} {next = later} e unused fits rest) q h =
    all_fine rest q.1.1.1 (h.0, with_fine s later h.1 (value_fine (given_of s) set at value later (given_fine s h.1) q.1.1.0 fits))
all_fine (g.in_parentheses {step = s} {at = at} {set = set} {value = value} {next = later} e unused parens fits rest) q h =
    all_fine rest q.1.1.1.1.1 (h.0, with_fine s later h.1 (value_fine (given_of s) set at value later (given_fine s h.1) q.1.1.1.0 fits))
all_fine (g.list {step = s} {set = set} e unused lists rest) q h = all_fine rest q.1.1.1 (h.0, with_fine s (with_list (given_of s) set) h.1 (list_fine (given_of s) set (given_fine s h.1)))
all_fine (g.list_value e rest) q h = all_fine rest q.1 h
all_fine (g.list_end rest) q h = all_fine rest q.1 h
all_fine (g.symbol {r = r} {step = s} {word = word} {name = name} {text = text} {value = value} takes e said rest) q h =
    all_fine rest q.1.1.1 (symbol_fine r s name text h.0 (symbol_name word name (taken_fits (symbol_in word) name e)) (text_clean value text q.1.1.0 said), h.1)
all_fine (g.startt unused rest) q h = all_fine rest q.1.1.1 h
all_fine (g.on_day {word = word} {day = d} e rest) q h = all_fine rest q.1.1 (h.0, (h.1.0, h.1.1, day_is word d e))
all_fine (g.on_day_at {word = word} {day = d} e rest) q h = all_fine rest q.1.1 (h.0, h.1, day_is word d e)
all_fine (g.today_at rest) q h = all_fine rest q.1 (h.0, h.1, refl)
all_fine (g.timed fits rest) q h = all_fine rest q.1.1 (h.0, (h.1.0, h.1.1, h.2))
all_fine (g.timed_half e fits e2 fits2 rest) q h = all_fine rest q.1.1.1 (h.0, (h.1.0, h.1.1, h.2))
all_fine (g.side {step = s} takes e unused rest) q h = all_fine rest q.1 (h.0, with_fine s _ h.1 (given_fine s h.1))
all_fine (g.group e unused rest) q h = all_fine rest q.1.1 (h.0, (h.1, nothing_fine))
all_fine (g.group_end {copy = copy} {end = end} {given = given} named2 rest) q h = all_fine rest q.1 (h.0, end_fine copy end given h.1.0 h.1.1)
all_fine (g.compress unused rest) q h = all_fine rest q.1 h
all_fine (g.prime unused rest) q h = all_fine rest q.1.1.1.1 h
all_fine (g.prime_quoted unused rest) q h = all_fine rest q.1.1.1.1.1 h
all_fine (g.extended unused rest) q h = all_fine rest q.1.1 h
all_fine (g.extended_list unused rest) q h = all_fine rest q.1.1.1.1 h
all_fine (g.pair rest) q h = all_fine rest q.1.1.1 h
all_fine (g.pairs_end rest) q h = all_fine rest q.1 h
all_fine (g.run_group rest) q h = all_fine rest q.1 h
all_fine (g.run_group_end rest) q h = all_fine rest q.1 h
all_fine (g.label {r = r} {before = before} {step = s} e e2 rest) q h = all_fine rest q.1 (ended_fine r before s h.0 h.1 e)
all_fine (g.copy {p = p} {before = before} {named = label} e room rest) q h = all_fine rest q.1 (opening_fine p label before h e, (tt, tt, nothing_fine))
all_fine (g.run {p = p} {before = before} {named = label} e room w rest) q h = all_fine rest q.1.1 (opening_fine p label before h e, nothing_fine)
all_fine (g.submit {p = p} {before = before} {named = label} e room rest) q h = all_fine rest q.1 (opening_fine p label before h e, nothing_fine)
all_fine (g.if_then {p = p} {before = before} {named = label} {at = at} {at3 = at3} {n = n} {name = name} {relates = relates} e room deep e3 related fits rest) q h =
    all_fine rest q.1.1.1.1.1.1.1 (stored_fine before (begun_at label at) (sketch.If at3 name) (what.If name relates n) (false ∷ before.ifs) refl (opening_fine p label before h e) (record { quotable = tt; good = tt }) (deep_if before at (false ∷ before.ifs) deep), tt)
all_fine (g.else_part {r = r} {before = before} {step = s} {at = at} {ifs = ifs} e room open2 rest) q h =
    all_fine rest q.1 (stored_fine before (begun_at None at) sketch.Else what.Else (true ∷ ifs) tt (ended_fine r before s h.0 h.1 e) (record { quotable = tt; good = tt }) (rw open2 refl), tt)
all_fine (g.eif {r = r} {before = before} {step = s} {at = at} {ifs = ifs} e room open2 rest) q h =
    all_fine rest q.1 (stored_fine before (begun_at None at) sketch.Eif what.Eif ifs tt (ended_fine r before s h.0 h.1 e) (record { quotable = tt; good = tt }) (rw open2 refl), tt)
all_fine (g.goto {p = p} {before = before} {named = label} {at = at} {at2 = at2} {name = name} e room e2 rest) q h =
    all_fine rest q.1.1 (stored_fine before (begun_at label at) (sketch.Goto at2 name) (what.Goto name) before.ifs refl (opening_fine p label before h e) (record { quotable = tt; good = tt }) refl, tt)
all_fine (g.exit {p = p} {before = before} {named = label} {at = at} e room rest) q h =
    all_fine rest q.1 (stored_fine before (begun_at label at) sketch.Exit what.Exit before.ifs tt (opening_fine p label before h e) (record { quotable = tt; good = tt }) refl, tt)
all_fine (g.pend {r = r} {all = all} {step = s} e) q h = ended_fine r all s h.0 h.1 e
all_fine (g.pend_semicolon {r = r} {all = all} {step = s} e) q h = ended_fine r all s h.0 h.1 e
