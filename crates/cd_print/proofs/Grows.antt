-- What a text says is bounded by the text.
use Rattle.std.proofs.Common.{◌≡◌, ℕ, ◌+◌, ◌-◌, ◌*◌, ◌≤◌, Bool, true, false, ◌&&◌, List, [], ◌∷◌, ◌++◌, length, Option, Some, None, Ok, refl, ap, subst, arith, if◌then◌else◌, nat_le}
use Rattle.std.specs.Str.{bytes_eq}
use Rattle.std.specs.Char.{is_ascii_alphanumeric}
use Rattle.std.specs.List.{list_all}
use Rattle.std.specs.Prelude.{◌==◌}
use Rattle.std.proofs.lemmas.List.{length-map}
use Rattle.std.specs.Char.{to_ascii_uppercase}
use Rattle.cd_types.specs.FileName.{is_file_name}
use Rattle.cd_types.specs.Symbols.{upper_case, with_symbol}
use Rattle.cd_ast.specs.declared.process.Stmt.{Stmt}
use Rattle.cd_ast.specs.declared.process.What.{What}
use Rattle.cd_ast.specs.declared.process.What.TheVariants as what
use Rattle.cd_grammar.specs.declared.token.Key.{Key}
use Rattle.cd_grammar.specs.declared.token.Sign.{Sign}
use Rattle.cd_grammar.specs.declared.token.Sign.TheVariants as sign
use Rattle.cd_grammar.specs.declared.token.Token.{Token}
use Rattle.cd_grammar.specs.declared.token.Token.TheVariants.{Word, Quoted, Mark}
use Rattle.cd_grammar.specs.declared.given.Given.{Given}
use Rattle.cd_grammar.specs.declared.given.Slot.{Slot}
use Rattle.cd_grammar.specs.declared.given.Slot.TheVariants as slot
use Rattle.cd_grammar.specs.declared.mark.Sketch.{Sketch}
use Rattle.cd_grammar.specs.declared.mark.Sketch.TheVariants as sketch
use Rattle.cd_grammar.specs.declared.step.Begun.{Begun}
use Rattle.cd_grammar.specs.declared.step.CopyGiven.{CopyGiven}
use Rattle.cd_grammar.specs.declared.step.End.{End}
use Rattle.cd_grammar.specs.declared.step.End.TheVariants as ends
use Rattle.cd_grammar.specs.declared.step.Step.{Step}
use Rattle.cd_grammar.specs.declared.step.Work.{Work}
use Rattle.cd_grammar.specs.declared.step.Step.TheVariants as step
use Rattle.cd_grammar.specs.Answers.{Answer, Fits, Outside, Wrong, fits_as, ranged, strict, taken}
use Rattle.cd_grammar.specs.Values.{file_in, node_in, number_in, interval_in, symbol_in, is_share, is_command, are_items}
use Rattle.cd_grammar.specs.Given.{with_word, with_quoted, with_value, with_list, shared}
use Rattle.cd_grammar.specs.Reading.{Reading, stored, copied, copied_between, run, submitted, ended, given_of, with_given, with_end, with_name}
use Rattle.cd_grammar.specs.Grammar.{Place, Start, Rest, started, begun_at, opening, before_it, text_of}
use Rattle.cd_grammar.specs.Grammar as g
use Rattle.cd_print.proofs.Weights.{weight, heft}

-- the bytes of symbols as they are sent, and as they are printed
abbrev pub pairs_size : List (List ℕ × List ℕ) → ℕ
pairs_size [] = 0
pairs_size (pair ∷ pairs) = 5 + length pair.0 + length pair.1 + pairs_size pairs

-- the bytes of what a statement says that may be many
abbrev pub said_size : What → ℕ
said_size (what.Copy copy) = length copy.from + length copy.to
said_size (what.Task task) = length task.command
said_size (what.Submit submit) = length submit.file + pairs_size submit.symbols
said_size (what.If label rel n) = 0
said_size what.Else = 0
said_size what.Eif = 0
said_size (what.Goto label) = 0
said_size what.Exit = 0

abbrev pub stmts_size : List Stmt → ℕ
stmts_size [] = 0
stmts_size (s ∷ stmts) = said_size s.what + stmts_size stmts

size_more : (stmts : List Stmt) (s : Stmt) → stmts_size (stmts ++ s ∷ []) ≡ stmts_size stmts + said_size s.what
size_more [] s = omega arith
size_more (other ∷ stmts) s = let more : stmts_size (stmts ++ s ∷ []) ≡ stmts_size stmts + said_size s.what = size_more stmts s in omega arith

-- the same of what was read so far
abbrev opt_size : Option (List ℕ) → ℕ
opt_size None = 0
opt_size (Some bytes) = length bytes

abbrev given_size : Given → ℕ
given_size given = opt_size given.file + opt_size given.command

abbrev end_size : Option Given → ℕ
end_size None = 0
end_size (Some given) = given_size given

abbrev copy_size : CopyGiven → ℕ
copy_size copy = end_size copy.from + end_size copy.to + given_size copy.others

abbrev step_size : Step → ℕ
step_size (step.Head given) = given_size given
step_size step.Between = 0
step_size (step.Copy begun copy) = copy_size copy
step_size (step.Group begun copy end given) = copy_size copy + given_size given
step_size (step.Run begun w given) = given_size given
step_size (step.RunGroup begun w given) = given_size given
step_size (step.Submit begun given) = given_size given

abbrev pub reading_size : Reading → ℕ
reading_size r = stmts_size r.stmts + pairs_size r.symbols

abbrev pub place_size : Place → ℕ
place_size Start = 0
place_size (g.At r s) = reading_size r + step_size s
place_size (g.Labelled r at label) = reading_size r
place_size (g.Values r s) = reading_size r + step_size s
place_size (g.Pairs r s) = reading_size r + step_size s
place_size (g.Starting r given) = reading_size r + given_size given
place_size (g.Timing r given day) = reading_size r + given_size given

fits_is : {A : Type 0} (x y : A) → Fits x ≡ Fits y → x ≡ y
fits_is x y e = cc

taken_fits : {A : Type 0} (answer : Answer A) (x : A) → taken true answer ≡ Ok x → answer ≡ Fits x
taken_fits (Fits y) x e = let same : y ≡ x = cc in fits_at same
  where
    fits_at : {A : Type 0} {x y : A} → x ≡ y → Fits x ≡ Fits y
    fits_at {A} e2 = ap (λ (z : A). Fits z) e2
taken_fits (Outside y) x e = absurd cc
taken_fits Wrong x e = absurd cc

-- what is given with a value
module _ (n : ℕ) where
  by_answer : {A : Type 0} (answer : Answer A) (f : A → Given) (x : Given) → ((v : A) → given_size (f v) ≤ n) → fits_as f answer ≡ Fits x → given_size x ≤ n
  by_answer (Fits v) f x k e = subst (λ (z : Given). given_size z ≤ n) (fits_is (f v) x e) (k v)
  by_answer (Outside v) f x k e = absurd cc
  by_answer Wrong f x k e = absurd cc

  by_ranged : (b : Bool) (v x : Given) → given_size v ≤ n → ranged b v ≡ Fits x → given_size x ≤ n
  by_ranged true v x k e = subst (λ (z : Given). given_size z ≤ n) (fits_is v x e) k
  by_ranged false v x k e = absurd cc

  by_test : (b : Bool) (bytes : List ℕ) (f : List ℕ → Given) (x : Given) → given_size (f bytes) ≤ n → fits_as f (ranged b bytes) ≡ Fits x → given_size x ≤ n
  by_test true bytes f x k e = subst (λ (z : Given). given_size z ≤ n) (fits_is (f bytes) x e) k
  by_test false bytes f x k e = absurd cc

  by_file : (bytes : List ℕ) (f : List ℕ → Given) (x : Given) → given_size (f bytes) ≤ n → fits_as f (file_in bytes) ≡ Fits x → given_size x ≤ n
  unfolding file_in
  by_file bytes f x k e = by_test (is_file_name bytes) bytes f x k e

  by_same : (v x : Given) → given_size v ≤ n → Fits v ≡ Fits x → given_size x ≤ n
  by_same v x k e = subst (λ (z : Given). given_size z ≤ n) (fits_is v x e) k

  by_share : (given : Given) (b : Bool) (x : Given) → given_size given ≤ n → shared given b ≡ Fits x → given_size x ≤ n
  by_share given true x k e = by_same (record given { share = true }) x k e
  by_share given false x k e = absurd cc

word_size : (given : Given) (set : Slot) (at : ℕ) (k : Key) (word : List ℕ) (x : Given) (n : ℕ) → given_size given + length word ≤ n → with_word given set at k word ≡ Fits x → given_size x ≤ n
unfolding with_word
word_size given slot.Snode at k word x n h e = by_answer n (node_in word) _ x (λ v. omega arith) e
word_size given slot.Prty at k word x n h e = by_answer n (number_in 1 15 word) _ x (λ v. omega arith) e
word_size given slot.Class at k word x n h e = by_answer n (number_in 1 255 word) _ x (λ v. omega arith) e
word_size given slot.Hold at k word x n h e = by_answer n _ _ x (λ v. omega arith) e
word_size given slot.Retain at k word x n h e = by_answer n _ _ x (λ v. omega arith) e
word_size given slot.Start at k word x n h e = absurd cc
word_size given slot.Pacct at k word x n h e = by_same n _ x (omega arith) e
word_size given slot.Sacct at k word x n h e = by_same n _ x (omega arith) e
word_size given slot.Notify at k word x n h e = by_same n _ x (omega arith) e
word_size given slot.Pnodeid at k word x n h e = by_same n _ x (omega arith) e
word_size given slot.Snodeid at k word x n h e = by_same n _ x (omega arith) e
word_size given slot.File at k word x n h e = by_file n word _ x (omega arith) e
word_size given slot.Side at k word x n h e = by_answer n _ _ x (λ v. omega arith) e
word_size given slot.Items at k word x n h e = absurd cc
word_size given slot.Command at k word x n h e = absurd cc
word_size given slot.Share at k word x n h e = by_share n given (is_share word) x (omega arith) e
word_size given slot.Disp at k word x n h e = by_answer n _ _ x (λ v. omega arith) e
word_size given slot.Ckpt at k word x n h e = by_answer n (interval_in word) _ x (λ v. omega arith) e
word_size given slot.Restart at k word x n h e = by_answer n _ _ x (λ v. omega arith) e
word_size given slot.Pgm at k word x n h e = by_same n _ x (omega arith) e
word_size given slot.Library at k word x n h e = by_same n _ x (omega arith) e

quoted_size : (given : Given) (set : Slot) (text : List ℕ) (x : Given) (n : ℕ) → given_size given + length text ≤ n → with_quoted given set text ≡ Fits x → given_size x ≤ n
unfolding with_quoted
quoted_size given slot.File text x n h e = by_file n text _ x (omega arith) e
quoted_size given slot.Items text x n h e = by_ranged n (are_items text) (record given { items = true }) x (omega arith) e
quoted_size given slot.Command text x n h e = by_ranged n (is_command text) (record given { command = Some text }) x (omega arith) e
quoted_size given slot.Pacct text x n h e = by_same n _ x (omega arith) e
quoted_size given slot.Sacct text x n h e = by_same n _ x (omega arith) e
quoted_size given slot.Notify text x n h e = by_same n _ x (omega arith) e
quoted_size given slot.Pnodeid text x n h e = by_same n _ x (omega arith) e
quoted_size given slot.Snodeid text x n h e = by_same n _ x (omega arith) e
quoted_size given _ text x n h e = absurd cc

value_size : (given : Given) (set : Slot) (at : ℕ) (t : Token) (x : Given) → taken true (with_value given set at t) ≡ Ok x → given_size x ≤ given_size given + weight t
unfolding weight
value_size given set at (Word at2 k word) x e = word_size given set at k word x (given_size given + (length word - 1 + 1)) (omega arith) (taken_fits (with_word given set at k word) x e)
value_size given set at (Quoted at2 text) x e = quoted_size given set text x (given_size given + (length text + 1)) (omega arith) (taken_fits (with_quoted given set text) x e)
value_size given set at (Mark at2 m) x e = absurd cc

list_size : (given : Given) (set : Slot) → given_size (with_list given set) ≤ given_size given
unfolding with_list
list_size given slot.Pacct = omega arith
list_size given slot.Sacct = omega arith
list_size given slot.Notify = omega arith
list_size given slot.Pnodeid = omega arith
list_size given slot.Snodeid = omega arith
list_size given _ = omega arith

given_step : (s : Step) (later : Given) (w : ℕ) → given_size later ≤ given_size (given_of s) + w → step_size (with_given s later) ≤ step_size s + w
given_step (step.Head given) later w h = h
given_step step.Between later w h = omega arith
given_step (step.Copy begun copy) later w h = omega arith
given_step (step.Group begun copy end given) later w h = omega arith
given_step (step.Run begun v given) later w h = h
given_step (step.RunGroup begun v given) later w h = h
given_step (step.Submit begun given) later w h = h

-- where a statement ends
same_reading : (a b : Reading) → Some a ≡ Some b → a ≡ b
same_reading a b e = cc

store_size : (r before : Reading) (begun : Begun) (sketched : Sketch) (said : What) (n : ℕ) → stmts_size r.stmts + said_size said ≤ n → Some (stored r begun sketched said) ≡ Some before → reading_size before ≤ n
store_size r before begun sketched said n h e =
    let more : stmts_size (stored r begun sketched said).stmts ≡ stmts_size r.stmts + said_size said = size_more r.stmts _ in
    let here : reading_size (stored r begun sketched said) ≤ n = omega arith in
    subst (λ (x : Reading). reading_size x ≤ n) (same_reading _ before e) here

copied_size : (r : Reading) (begun : Begun) (from to : Given) (ckpt : Option ℕ) (a b : Option (List ℕ)) (before : Reading) (n : ℕ) → stmts_size r.stmts + (opt_size a + opt_size b) ≤ n
    → copied r begun from to ckpt a b ≡ Some before → reading_size before ≤ n
copied_size r begun from to ckpt (Some a) (Some b) before n h e = store_size r before begun _ _ n h e
copied_size r begun from to ckpt None b before n h e = absurd cc
copied_size r begun from to ckpt (Some a) None before n h e = absurd cc

between_size : (r : Reading) (begun : Begun) (ckpt : Option ℕ) (a b : Option Given) (before : Reading) (n : ℕ) → stmts_size r.stmts + (end_size a + end_size b) ≤ n
    → copied_between r begun ckpt a b ≡ Some before → reading_size before ≤ n
between_size r begun ckpt (Some from) (Some to) before n h e = copied_size r begun from to ckpt from.file to.file before n (omega arith) e
between_size r begun ckpt None b before n h e = absurd cc
between_size r begun ckpt (Some from) None before n h e = absurd cc

run_size : (r : Reading) (begun : Begun) (w : Work) (given : Given) (o : Option (List ℕ)) (before : Reading) (n : ℕ) → stmts_size r.stmts + opt_size o ≤ n → run r begun w given o ≡ Some before → reading_size before ≤ n
run_size r begun w given (Some command) before n h e = store_size r before begun _ _ n h e
run_size r begun w given None before n h e = absurd cc

submitted_size : (r : Reading) (begun : Begun) (given : Given) (o : Option (List ℕ)) (before : Reading) (n : ℕ) → stmts_size r.stmts + (opt_size o + pairs_size r.symbols) ≤ n → submitted r begun given o ≡ Some before → reading_size before ≤ n
submitted_size r begun given (Some file) before n h e = store_size r before begun _ _ n h e
submitted_size r begun given None before n h e = absurd cc

head_size : (r before : Reading) (n : ℕ) → reading_size r ≤ n → Some r ≡ Some before → reading_size before ≤ n
head_size r before n h e = subst (λ (x : Reading). reading_size x ≤ n) (same_reading r before e) h

ended_size : (r before : Reading) (s : Step) → ended r s ≡ Some before → reading_size before ≤ reading_size r + step_size s
unfolding ended
ended_size r before (step.Head given) e = head_size (record r { head = given }) before _ (omega arith) e
ended_size r before step.Between e = head_size r before _ (omega arith) e
ended_size r before (step.Copy begun copy) e = between_size r begun copy.others.ckpt copy.from copy.to before _ (omega arith) e
ended_size r before (step.Group begun copy end given) e = absurd cc
ended_size r before (step.Run begun w given) e = run_size r begun w given given.command before _ (omega arith) e
ended_size r before (step.RunGroup begun w given) e = absurd cc
ended_size r before (step.Submit begun given) e = submitted_size r begun given given.file before _ (omega arith) e

abbrev Opened : Type 0
Opened = Option (ℕ × List ℕ) × Reading

abbrev opened : Option (ℕ × List ℕ) → Reading → Opened
opened label r = (label, r)

same_opened : (a b : Opened) → Some a ≡ Some b → a ≡ b
same_opened a b e = cc

opened_at : (r : Reading) (s : Step) (o : Option Reading) (label : Option (ℕ × List ℕ)) (before : Reading) → ended r s ≡ o → before_it None o ≡ Some (opened label before) → reading_size before ≤ reading_size r + step_size s
opened_at r s (Some other) label before e e2 =
    let pairs : opened None other ≡ opened label before = same_opened (opened None other) (opened label before) e2 in
    subst (λ (p : Opened). reading_size p.1 ≤ reading_size r + step_size s) pairs (ended_size r other s e)
opened_at r s None label before e e2 = absurd cc

opening_size : (p : Place) (label : Option (ℕ × List ℕ)) (before : Reading) → opening p ≡ Some (opened label before) → reading_size before ≤ place_size p
opening_size Start label before e = absurd cc
opening_size (g.At r s) label before e = opened_at r s (ended r s) label before refl e
opening_size (g.Labelled r at name) label before e =
    let pairs : opened (Some (at, name)) r ≡ opened label before = same_opened (opened (Some (at, name)) r) (opened label before) e in
    let here : reading_size r ≤ reading_size r = omega arith in
    subst (λ (p : Opened). reading_size p.1 ≤ reading_size r) pairs here
opening_size (g.Values r s) label before e = absurd cc
opening_size (g.Pairs r s) label before e = absurd cc
opening_size (g.Starting r given) label before e = absurd cc
opening_size (g.Timing r given day) label before e = absurd cc

end_given : (copy : CopyGiven) (end : End) (given : Given) → copy_size (with_end copy end given) ≤ copy_size copy + given_size given
end_given copy ends.From given = omega arith
end_given copy ends.To given = omega arith

-- a symbol
by_name : (b : Bool) (pair : List ℕ × List ℕ) (pairs others : List (List ℕ × List ℕ)) (text : List ℕ) (n : ℕ) → pairs_size others ≤ pairs_size pairs + (5 + n + length text)
    → pairs_size (if b then (pair.0, text) ∷ pairs else pair ∷ others) ≤ pairs_size (pair ∷ pairs) + (5 + n + length text)
by_name true pair pairs others text n h = omega arith
by_name false pair pairs others text n h = omega arith

pairs_more : (pairs : List (List ℕ × List ℕ)) (name text : List ℕ) → pairs_size (with_symbol pairs name text) ≤ pairs_size pairs + (5 + length name + length text)
pairs_more [] name text = omega arith
pairs_more (pair ∷ pairs) name text = by_name (bytes_eq name pair.0) pair pairs (with_symbol pairs name text) text (length name) (pairs_more pairs name text)

named_size : (r : Reading) (s : Step) (name text : List ℕ) → reading_size (with_name r s name text) ≤ reading_size r + (5 + length name + length text)
named_size r (step.Submit begun given) name text = let more : pairs_size (with_symbol r.symbols name text) ≤ pairs_size r.symbols + (5 + length name + length text) = pairs_more r.symbols name text in omega arith
named_size r (step.Head given) name text = omega arith
named_size r step.Between name text = omega arith
named_size r (step.Copy begun copy) name text = omega arith
named_size r (step.Group begun copy end given) name text = omega arith
named_size r (step.Run begun w given) name text = omega arith
named_size r (step.RunGroup begun w given) name text = omega arith

symbol_by : (a b d c : Bool) (n : ℕ) (name x : List ℕ) → length name ≡ n → nat_le 1 n ≡ a → (if c then ranged (a && b && d) name else Wrong) ≡ Fits x → (length x ≡ n) × (1 ≤ n)
symbol_by true true true true n name x e is e2 = (subst (λ (y : List ℕ). length y ≡ n) (fits_is name x e2) e, grind arith)
symbol_by false b d true n name x e is e2 = absurd cc
symbol_by true false d true n name x e is e2 = absurd cc
symbol_by true true false true n name x e is e2 = absurd cc
symbol_by a b d false n name x e is e2 = absurd cc

symbol_name : (word name : List ℕ) → symbol_in word ≡ Fits name → (length word ≡ 1 + length name) × (1 ≤ length name)
unfolding symbol_in
symbol_name [] name e = absurd cc
symbol_name (b ∷ bytes) name e =
    let is : (length name ≡ length bytes) × (1 ≤ length bytes) = symbol_by (nat_le 1 (length bytes)) (nat_le (length bytes) 17) (list_all is_ascii_alphanumeric bytes) (b == 38) (length bytes) bytes name refl refl e in
    let same : length name ≡ length bytes = is.0 in
    let some : 1 ≤ length bytes = is.1 in
    (omega arith, omega arith)

text_size : (value : Token) (text : List ℕ) → text_of value ≡ Some text → (length text ≤ weight value) × (1 ≤ weight value)
unfolding weight
text_size (Word at k word) text e = let same : word ≡ text = cc in let long : length word ≡ length text = ap length same in (omega arith, omega arith)
text_size (Quoted at bytes) text e = let same : bytes ≡ text = cc in let long : length bytes ≡ length text = ap length same in (omega arith, omega arith)
text_size (Mark at m) text e = absurd cc

-- of four bytes that are kept there are at most seven of the tokens
pub record Bounded (all before left : ℕ) : Type 0 where
  pub is : 4 * all ≤ 4 * before + 7 * left

same : {a p p2 h h2 : ℕ} → p2 ≤ p → h2 ≤ h → Bounded a p2 h2 → Bounded a p h
same {a} {p} {p2} {h} {h2} e e2 b = let is : 4 * a ≤ 4 * p2 + 7 * h2 = b.is in record { is = omega arith }

more : {a p p2 h h2 : ℕ} (w : ℕ) → p2 ≤ p + w → w + h2 ≤ h → Bounded a p2 h2 → Bounded a p h
more {a} {p} {p2} {h} {h2} w e e2 b = let is : 4 * a ≤ 4 * p2 + 7 * h2 = b.is in record { is = omega arith }

symbols_more : {a p p2 h h2 : ℕ} (n v w : ℕ) → p2 ≤ p + (5 + n + v) → 1 ≤ n → v ≤ w → 1 ≤ w → n + 2 + w + h2 ≤ h → Bounded a p2 h2 → Bounded a p h
symbols_more {a} {p} {p2} {h} {h2} n v w e e2 e3 e4 e5 b = let is : 4 * a ≤ 4 * p2 + 7 * h2 = b.is in record { is = omega arith }

le_self : (n : ℕ) → n ≤ n
le_self n = omega arith

no_more : (n w : ℕ) → n ≤ n + w
no_more n w = omega arith

weight_name : (at : ℕ) (k : Key) (word : List ℕ) (n : ℕ) → length word ≡ 1 + n → weight (Word at k word) ≡ 1 + n
unfolding weight
weight_name at k word n e = omega arith

weight_mark : (at : ℕ) (s : Sign) → weight (Mark at s) ≡ 1
unfolding weight
weight_mark at s = refl

empty_size : (r : Reading) (begun : Begun) (sketched : Sketch) (said : What) (n : ℕ) → said_size said ≡ 0 → reading_size r ≤ n → reading_size (stored r begun sketched said) + 0 ≤ n
empty_size r begun sketched said n e h = let long : stmts_size (stored r begun sketched said).stmts ≡ stmts_size r.stmts + said_size said = size_more r.stmts _ in omega arith

-- behind a place
pub all_size : {p : Place} {ts : List Token} {all : Reading} → Rest strict p ts all → Bounded (reading_size all) (place_size p) (heft ts)
all_size (g.process e rest) = same (omega arith) (omega arith) (all_size rest)
all_size (g.param {r = r} {step = s} {at = at} {set = set} {value = value} {next = later} e unused fits rest) =
    let grown : step_size (with_given s later) ≤ step_size s + weight value = given_step s later (weight value) (value_size (given_of s) set at value later fits) in
    more (weight value) (omega arith) (omega arith) (all_size rest)
all_size (g.in_parentheses {r = r} {step = s} {at = at} {set = set} {value = value} {next = later} e unused parens fits rest) =
    let grown : step_size (with_given s later) ≤ step_size s + weight value = given_step s later (weight value) (value_size (given_of s) set at value later fits) in
    more (weight value) (omega arith) (omega arith) (all_size rest)
all_size (g.list {r = r} {step = s} {set = set} e unused lists rest) =
    let kept : given_size (with_list (given_of s) set) ≤ given_size (given_of s) = list_size (given_of s) set in
    let grown : step_size (with_given s (with_list (given_of s) set)) ≤ step_size s + 0 = given_step s (with_list (given_of s) set) 0 (omega arith) in
    more 0 (omega arith) (omega arith) (all_size rest)
all_size (g.list_value e rest) = same (omega arith) (omega arith) (all_size rest)
all_size (g.list_end rest) = same (omega arith) (omega arith) (all_size rest)
all_size (g.symbol {r = r} {step = s} {at = at} {at2 = at2} {k = k} {word = word} {name = name} {text = text} {value = value} takes e said rest) =
    let is : (length word ≡ 1 + length name) × (1 ≤ length name) = symbol_name word name (taken_fits (symbol_in word) name e) in
    let some : 1 ≤ length name = is.1 in
    let long : length (upper_case name) ≡ length name = length-map name to_ascii_uppercase in
    let front : weight (Word at k word) ≡ 1 + length name = weight_name at k word (length name) is.0 in
    let one : weight (Mark at2 sign.Equals) ≡ 1 = weight_mark at2 sign.Equals in
    let valued : (length text ≤ weight value) × (1 ≤ weight value) = text_size value text said in
    let grown : reading_size (with_name r s (upper_case name) text) ≤ reading_size r + (5 + length (upper_case name) + length text) = named_size r s (upper_case name) text in
    symbols_more (length name) (length text) (weight value) (omega arith) some valued.0 valued.1 (omega arith) (all_size rest)
all_size (g.startt unused rest) = same (omega arith) (omega arith) (all_size rest)
all_size (g.on_day e rest) = same (omega arith) (omega arith) (all_size rest)
all_size (g.on_day_at e rest) = same (omega arith) (omega arith) (all_size rest)
all_size (g.today_at rest) = same (omega arith) (omega arith) (all_size rest)
all_size (g.timed fits rest) = same (omega arith) (omega arith) (all_size rest)
all_size (g.timed_half e fits e2 fits2 rest) = same (omega arith) (omega arith) (all_size rest)
all_size (g.side {r = r} {step = s} {s = side} takes e unused rest) =
    let grown : step_size (with_given s (record (given_of s) { side = Some side })) ≤ step_size s + 0 = given_step s _ 0 (omega arith) in
    more 0 (omega arith) (omega arith) (all_size rest)
all_size (g.group e unused rest) = same (omega arith) (omega arith) (all_size rest)
all_size (g.group_end {copy = copy} {end = end} {given = given} named2 rest) =
    let grown : copy_size (with_end copy end given) ≤ copy_size copy + given_size given = end_given copy end given in
    same (omega arith) (omega arith) (all_size rest)
all_size (g.compress unused rest) = same (omega arith) (omega arith) (all_size rest)
all_size (g.prime unused rest) = same (omega arith) (omega arith) (all_size rest)
all_size (g.prime_quoted unused rest) = same (omega arith) (omega arith) (all_size rest)
all_size (g.extended unused rest) = same (omega arith) (omega arith) (all_size rest)
all_size (g.extended_list unused rest) = same (omega arith) (omega arith) (all_size rest)
all_size (g.pair rest) = same (omega arith) (omega arith) (all_size rest)
all_size (g.pairs_end rest) = same (omega arith) (omega arith) (all_size rest)
all_size (g.run_group rest) = same (omega arith) (omega arith) (all_size rest)
all_size (g.run_group_end rest) = same (omega arith) (omega arith) (all_size rest)
all_size (g.label {r = r} {before = before} {step = s} e e2 rest) = same (ended_size r before s e) (omega arith) (all_size rest)
all_size (g.copy {p = p} {before = before} {named = label} e room rest) =
    let grown : reading_size before ≤ place_size p = opening_size p label before e in same (omega arith) (omega arith) (all_size rest)
all_size (g.run {p = p} {before = before} {named = label} e room w rest) =
    let grown : reading_size before ≤ place_size p = opening_size p label before e in same (omega arith) (omega arith) (all_size rest)
all_size (g.submit {p = p} {before = before} {named = label} e room rest) =
    let grown : reading_size before ≤ place_size p = opening_size p label before e in same (omega arith) (omega arith) (all_size rest)
all_size (g.if_then {p = p} {before = before} {named = label} {at = at} {at3 = at3} {n = n} {name = name} {relates = relates} e room deep e3 related fits rest) =
    same (empty_size before (begun_at label at) (sketch.If at3 name) (what.If name relates n) (place_size p) refl (opening_size p label before e)) (omega arith) (all_size rest)
all_size (g.else_part {r = r} {before = before} {step = s} {at = at} e room opened2 rest) =
    same (empty_size before (begun_at None at) sketch.Else what.Else (reading_size r + step_size s) refl (ended_size r before s e)) (omega arith) (all_size rest)
all_size (g.eif {r = r} {before = before} {step = s} {at = at} e room opened2 rest) =
    same (empty_size before (begun_at None at) sketch.Eif what.Eif (reading_size r + step_size s) refl (ended_size r before s e)) (omega arith) (all_size rest)
all_size (g.goto {p = p} {before = before} {named = label} {at = at} {at2 = at2} {name = name} e room e2 rest) =
    same (empty_size before (begun_at label at) (sketch.Goto at2 name) (what.Goto name) (place_size p) refl (opening_size p label before e)) (omega arith) (all_size rest)
all_size (g.exit {p = p} {before = before} {named = label} {at = at} e room rest) =
    same (empty_size before (begun_at label at) sketch.Exit what.Exit (place_size p) refl (opening_size p label before e)) (omega arith) (all_size rest)
all_size (g.pend {r = r} {all = all} {step = s} e) =
    let grown : reading_size all ≤ reading_size r + step_size s = ended_size r all s e in record { is = omega arith }
all_size (g.pend_semicolon {r = r} {all = all} {step = s} e) =
    let grown : reading_size all ≤ reading_size r + step_size s = ended_size r all s e in record { is = omega arith }
