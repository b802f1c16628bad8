-- Steps of substitution.
use Rattle.std.proofs.Common.{◌≡◌, ℕ, ◌+◌, ◌<◌, ◌≤◌, Bool, true, false, ◌&&◌, List, [], ◌∷◌, ◌++◌, length, Option, Some, None, Result, Ok, Err, refl, ap, ◌∙◌, sym, arith, append_assoc, append-nil, add_assoc, add-zero, inr, OnOk, length-append}
use Rattle.cd_ast.specs.declared.piece.PieceKind.{PieceKind}
use Rattle.cd_ast.specs.Pieces.{pieces_after}
use Rattle.cd_ast.specs.Subst.{Part, parts_after, piece_parts, parts_of, is_read, is_word, begins_with, given_for, before_all, substituted, subst}
use Rattle.cd_lexer.specs.declared.output.Output.{Output}
use Rattle.cd_lexer.specs.declared.fault.SymFault.{SymFault}
use Rattle.cd_lexer.specs.declared.fault.SymFault.TheVariants.{Unresolved, TooLong, NoMemory}
use Rattle.cd_lexer.specs.Faults.{IsSymFault}
use Rattle.cd_lexer.specs.Output.{StandsFor, PutsOut, Reached, IsStopped, longest_text}
use Rattle.cd_lexer.proofs.Whole.{bytes_of-pieces_after, parts_bytes, parts_bytes-parts_after}

before_all-append : (x y : List ℕ) (i j k : ℕ) (r : Result (List ℕ) ℕ) → before_all (Some x) i (before_all (Some y) j r) ≡ before_all (Some (x ++ y)) k r
before_all-append x y i j k (Ok z) = ap Ok (sym (append_assoc x y z))
before_all-append x y i j k (Err at) = refl

substituted-first : (symbols : List (List ℕ × List ℕ)) (at : ℕ) (bytes : List ℕ) (name : Option (List ℕ)) (parts : List Part)
    → substituted symbols at (record { bytes = bytes; name = name } ∷ parts) ≡ before_all (given_for symbols bytes name) at (substituted symbols (at + length bytes) parts)
unfolding substituted
substituted-first symbols at bytes name parts = refl

-- a part is put out
pub put-part : (old mid new : Output) (symbols : List (List ℕ × List ℕ)) (defines : Bool) (at : ℕ) (bs bytes rest given : List ℕ) (name : Option (List ℕ)) (whole : Result (List ℕ) ℕ)
    → parts_after defines 0 bs ≡ record { bytes = bytes; name = name } ∷ parts_after defines 0 rest
    → Some given ≡ given_for symbols bytes name
    → PutsOut old mid whole (substituted symbols at (parts_after defines 0 bs))
    → ((all : List ℕ) → StandsFor mid all → StandsFor new (all ++ given))
    → PutsOut old new whole (substituted symbols (at + length bytes) (parts_after defines 0 rest))
put-part old mid new symbols defines at bs bytes rest given name whole first is so_far put =
    let later = substituted symbols (at + length bytes) (parts_after defines 0 rest) in
    let step : substituted symbols at (parts_after defines 0 bs) ≡ before_all (Some given) at later =
    rw (first, substituted-first symbols at bytes name (parts_after defines 0 rest), ← is) refl in
    record {
      done = so_far.done ++ given;
      whole_is = so_far.whole_is ∙ ap (before_all (Some so_far.done) 0) step ∙ before_all-append so_far.done given 0 at 0 later;
      stands = λ all h. rw (← append_assoc all so_far.done given) (put (all ++ so_far.done) (so_far.stands all h));
    }

-- a name has no value
pub put-stop : (old mid : Output) (symbols : List (List ℕ × List ℕ)) (defines : Bool) (at : ℕ) (bs bytes rest : List ℕ) (name : Option (List ℕ)) (whole : Result (List ℕ) ℕ)
    → parts_after defines 0 bs ≡ record { bytes = bytes; name = name } ∷ parts_after defines 0 rest
    → None ≡ given_for symbols bytes name
    → PutsOut old mid whole (substituted symbols at (parts_after defines 0 bs))
    → whole ≡ Err at
put-stop old mid symbols defines at bs bytes rest name whole first is so_far =
    let step : substituted symbols at (parts_after defines 0 bs) ≡ Err at =
    rw (first, substituted-first symbols at bytes name (parts_after defines 0 rest), ← is) refl in
    so_far.whole_is ∙ ap (before_all (Some so_far.done) 0) step

substituted-end : (symbols : List (List ℕ × List ℕ)) (defines : Bool) (at : ℕ) (bs : List ℕ) → bs ≡ [] → substituted symbols at (parts_after defines 0 bs) ≡ Ok []
unfolding substituted parts_after
substituted-end symbols defines at bs e = rw e refl

pub put-end : (old new : Output) (symbols : List (List ℕ × List ℕ)) (defines : Bool) (at : ℕ) (bs : List ℕ) (whole : Result (List ℕ) ℕ)
    → bs ≡ [] → PutsOut old new whole (substituted symbols at (parts_after defines 0 bs)) → PutsOut old new whole (Ok [])
put-end old new symbols defines at bs whole e so_far = rw (substituted-end symbols defines at bs e) at so_far

-- what a piece becomes
pub piece_parts-read : (kind : PieceKind) (bytes behind : List ℕ) (defines : Bool) → is_read kind bytes ≡ true → defines ≡ (is_word kind && begins_with 61 behind) → piece_parts kind bytes behind ≡ parts_after defines 0 bytes
unfolding piece_parts
piece_parts-read kind bytes behind defines e d = rw (e, d) refl

pub read-ok : (old new : Output) (symbols : List (List ℕ × List ℕ)) (at : ℕ) (kind : PieceKind) (bytes behind : List ℕ) (defines : Bool) → is_read kind bytes ≡ true → defines ≡ (is_word kind && begins_with 61 behind)
    → PutsOut old new (substituted symbols at (parts_after defines 0 bytes)) (Ok []) → PutsOut old new (substituted symbols at (piece_parts kind bytes behind)) (Ok [])
read-ok old new symbols at kind bytes behind defines e d put = rw (piece_parts-read kind bytes behind defines e d) put

pub read-err : (fault : SymFault) (symbols : List (List ℕ × List ℕ)) (at : ℕ) (kind : PieceKind) (bytes behind : List ℕ) (defines : Bool) → is_read kind bytes ≡ true → defines ≡ (is_word kind && begins_with 61 behind)
    → IsStopped (substituted symbols at (parts_after defines 0 bytes)) fault → IsStopped (substituted symbols at (piece_parts kind bytes behind)) fault
read-err fault symbols at kind bytes behind defines e d stopped = rw (piece_parts-read kind bytes behind defines e d) stopped

substituted-kept : (symbols : List (List ℕ × List ℕ)) (at : ℕ) (kind : PieceKind) (bytes behind : List ℕ) → is_read kind bytes ≡ false → substituted symbols at (piece_parts kind bytes behind) ≡ Ok (bytes ++ [])
unfolding substituted piece_parts
substituted-kept symbols at kind bytes behind e = rw e refl

pub kept-ok : (old new : Output) (symbols : List (List ℕ × List ℕ)) (at : ℕ) (kind : PieceKind) (bytes behind : List ℕ) → is_read kind bytes ≡ false
    → ((all : List ℕ) → StandsFor old all → StandsFor new (all ++ bytes)) → PutsOut old new (substituted symbols at (piece_parts kind bytes behind)) (Ok [])
kept-ok old new symbols at kind bytes behind e put = record { done = bytes; whole_is = substituted-kept symbols at kind bytes behind e; stands = put }

-- the parts of a piece have its bytes
piece_parts-bytes : (kind : PieceKind) (bytes behind : List ℕ) (t : Bool) → is_read kind bytes ≡ t → parts_bytes (piece_parts kind bytes behind) ≡ bytes
unfolding parts_bytes piece_parts
piece_parts-bytes kind bytes behind true e = rw e (parts_bytes-parts_after (is_word kind && begins_with 61 behind) 0 bytes)
piece_parts-bytes kind bytes behind false e = rw e (append-nil bytes)

-- what comes of parts, and then of others
abbrev follow : Result (List ℕ) ℕ → Result (List ℕ) ℕ → Result (List ℕ) ℕ
follow (Ok done) later = before_all (Some done) 0 later
follow (Err at) later = Err at

follow-before : (given : Option (List ℕ)) (at : ℕ) (first later : Result (List ℕ) ℕ) → before_all given at (follow first later) ≡ follow (before_all given at first) later
follow-before None at first later = refl
follow-before (Some bytes) at (Ok done) later = before_all-append bytes done at 0 0 later
follow-before (Some bytes) at (Err e) later = refl

follow-nil : (r : Result (List ℕ) ℕ) → r ≡ follow (Ok []) r
follow-nil (Ok done) = refl
follow-nil (Err at) = refl

substituted-append : (symbols : List (List ℕ × List ℕ)) (at : ℕ) (parts others : List Part) → substituted symbols at (parts ++ others) ≡ follow (substituted symbols at parts) (substituted symbols (at + length (parts_bytes parts)) others)
unfolding substituted parts_bytes
substituted-append symbols at [] others = rw (add-zero at) (follow-nil (substituted symbols at others))
substituted-append symbols at (part ∷ parts) others =
    ap (before_all (given_for symbols part.bytes part.name) at) (substituted-append symbols (at + length part.bytes) parts others)
    ∙ rw (length-append part.bytes (parts_bytes parts), ← add_assoc at (length part.bytes) (length (parts_bytes parts)))
    (follow-before (given_for symbols part.bytes part.name) at (substituted symbols (at + length part.bytes) parts) (substituted symbols (at + length part.bytes + length (parts_bytes parts)) others))

parts_of-first : (kind next : PieceKind) (bytes rest : List ℕ) → parts_of (record { kind = kind; bytes = bytes } ∷ pieces_after 0 next rest) ≡ piece_parts kind bytes rest ++ parts_of (pieces_after 0 next rest)
unfolding parts_of
parts_of-first kind next bytes rest = ap (λ behind. piece_parts kind bytes behind ++ parts_of (pieces_after 0 next rest)) (bytes_of-pieces_after 0 next rest)

substituted-piece : (symbols : List (List ℕ × List ℕ)) (at : ℕ) (before kind : PieceKind) (bs bytes rest : List ℕ)
    → pieces_after 0 before bs ≡ record { kind = kind; bytes = bytes } ∷ pieces_after 0 kind rest
    → substituted symbols at (parts_of (pieces_after 0 before bs)) ≡ follow (substituted symbols at (piece_parts kind bytes rest)) (substituted symbols (at + length bytes) (parts_of (pieces_after 0 kind rest)))
substituted-piece symbols at before kind bs bytes rest first =
    rw (first, parts_of-first kind kind bytes rest, substituted-append symbols at (piece_parts kind bytes rest) (parts_of (pieces_after 0 kind rest)), piece_parts-bytes kind bytes rest (is_read kind bytes) refl) refl

-- a piece is put out
pub reached-piece : (old new : Output) (symbols : List (List ℕ × List ℕ)) (at : ℕ) (before kind : PieceKind) (bs bytes rest : List ℕ) (whole : Result (List ℕ) ℕ)
    → pieces_after 0 before bs ≡ record { kind = kind; bytes = bytes } ∷ pieces_after 0 kind rest
    → PutsOut old new (substituted symbols at (piece_parts kind bytes rest)) (Ok [])
    → Reached old whole (substituted symbols at (parts_of (pieces_after 0 before bs)))
    → Reached new whole (substituted symbols (at + length bytes) (parts_of (pieces_after 0 kind rest)))
reached-piece old new symbols at before kind bs bytes rest whole first put so_far =
    let later = substituted symbols (at + length bytes) (parts_of (pieces_after 0 kind rest)) in
    let step : substituted symbols at (parts_of (pieces_after 0 before bs)) ≡ before_all (Some put.done) 0 later =
    substituted-piece symbols at before kind bs bytes rest first ∙ rw (put.whole_is, append-nil put.done) refl in
    record {
      done = so_far.done ++ put.done;
      whole_is = so_far.whole_is ∙ ap (before_all (Some so_far.done) 0) step ∙ before_all-append so_far.done put.done 0 0 0 later;
      stands = put.stands so_far.done so_far.stands;
    }

-- a name of a piece has no value
stopped_whole : (fault : SymFault) (whole first later : Result (List ℕ) ℕ) (done : List ℕ) → whole ≡ before_all (Some done) 0 (follow first later) → IsStopped first fault → IsStopped whole fault
stopped_whole (Unresolved at) whole first later done is stopped = is ∙ rw stopped refl
stopped_whole (TooLong len) whole first later done is stopped = stopped
stopped_whole NoMemory whole first later done is stopped = tt

stopped_fault : (fault : SymFault) (text : List ℕ) (symbols : List (List ℕ × List ℕ)) → length text ≤ longest_text → IsStopped (subst text symbols) fault → IsSymFault text symbols fault
stopped_fault (Unresolved at) text symbols fits stopped = (fits, stopped)
stopped_fault (TooLong len) text symbols fits stopped = absurd stopped
stopped_fault NoMemory text symbols fits stopped = tt

pub piece_fault : (fault : SymFault) (text : List ℕ) (symbols : List (List ℕ × List ℕ)) (out : Output) (at : ℕ) (before kind : PieceKind) (bs bytes rest : List ℕ)
    → length text ≤ longest_text
    → pieces_after 0 before bs ≡ record { kind = kind; bytes = bytes } ∷ pieces_after 0 kind rest
    → Reached out (subst text symbols) (substituted symbols at (parts_of (pieces_after 0 before bs)))
    → IsStopped (substituted symbols at (piece_parts kind bytes rest)) fault → IsSymFault text symbols fault
piece_fault fault text symbols out at before kind bs bytes rest fits first so_far stopped =
    stopped_fault fault text symbols fits (stopped_whole fault (subst text symbols) (substituted symbols at (piece_parts kind bytes rest)) (substituted symbols (at + length bytes) (parts_of (pieces_after 0 kind rest))) so_far.done
    (so_far.whole_is ∙ ap (before_all (Some so_far.done) 0) (substituted-piece symbols at before kind bs bytes rest first)) stopped)

parts_of-end : (symbols : List (List ℕ × List ℕ)) (at : ℕ) (before : PieceKind) (bs : List ℕ) → bs ≡ [] → substituted symbols at (parts_of (pieces_after 0 before bs)) ≡ Ok []
unfolding substituted parts_of pieces_after
parts_of-end symbols at before bs e = rw e refl

-- at the text's end
pub reached-end : (out : Output) (symbols : List (List ℕ × List ℕ)) (at : ℕ) (before : PieceKind) (bs : List ℕ) (whole : Result (List ℕ) ℕ) → bs ≡ []
    → (so_far : Reached out whole (substituted symbols at (parts_of (pieces_after 0 before bs)))) → whole ≡ Ok so_far.done
reached-end out symbols at before bs whole e so_far =
    so_far.whole_is ∙ ap (before_all (Some so_far.done) 0) (parts_of-end symbols at before bs e) ∙ ap Ok (append-nil so_far.done)

pub on_ok : (r : Result (Unit {0}) SymFault) (P Q : Type 0) → OnOk r P → (P → Q) → OnOk r Q
on_ok (Ok x) P Q h f = f h
on_ok (Err e) P Q h f = tt

-- it is too long
pub too_long : (out : Output) (text : List ℕ) (symbols : List (List ℕ × List ℕ)) (at : ℕ) (before : PieceKind) (bs : List ℕ)
    → length text ≤ longest_text → bs ≡ [] → Reached out (subst text symbols) (substituted symbols at (parts_of (pieces_after 0 before bs)))
    → longest_text < out.len → IsSymFault text symbols (TooLong out.len)
too_long out text symbols at before bs fits end so_far over =
    let all : subst text symbols ≡ Ok so_far.done = reached-end out symbols at before bs (subst text symbols) end so_far in
    inr (fits, rw all (omega (arith, so_far.stands.len), so_far.stands.len))

-- it is all there
pub stands_all : (out : Output) (text : List ℕ) (symbols : List (List ℕ × List ℕ)) (at : ℕ) (before : PieceKind) (bs : List ℕ)
    → bs ≡ [] → Reached out (subst text symbols) (substituted symbols at (parts_of (pieces_after 0 before bs)))
    → out.len ≤ longest_text → subst text symbols ≡ Ok out.bytes.items
stands_all out text symbols at before bs end so_far fits =
    reached-end out symbols at before bs (subst text symbols) end so_far ∙ ap Ok (sym (so_far.stands.bytes (omega (arith, so_far.stands.len))))
