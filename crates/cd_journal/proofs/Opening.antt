-- What opening gives.
use Rattle.std.proofs.Common.{◌≡◌, ℕ, List, [], length, take, drop, true, false, Ok, refl, sym, ◌∙◌, ap, arith}
use Rattle.std.proofs.lemmas.Bool.{false≢true}
use Rattle.std.proofs.lemmas.List.{take_all, nil_from_length}
use Rattle.cd_outside.specs.Doubt.{settled}
use Rattle.cd_outside.specs.Disk.{DiskState}
use Rattle.cd_journal.specs.Bytes.{list_of}
use Rattle.cd_journal.specs.Index.{IsClosed, bodies_in}
use Rattle.cd_journal.specs.Journal.{Held, Opens}
use Rattle.cd_journal.specs.declared.place.Place.{Place}
use Rattle.cd_journal.proofs.Steps.{closed_list}

no_list : list_of [] ≡ Ok []
unfolding list_of
no_list = refl

-- no bytes are a journal without a header
pub opens_blank : (journal : Held) (disk : DiskState) → length disk.seen ≡ 0 → journal.places ≡ [] → journal.has_header ≡ false → disk.doubt ≡ settled disk.seen → Opens journal disk
opens_blank journal disk none places header rests =
    let nothing : disk.seen ≡ [] = nil_from_length disk.seen none in
    record {
      list = ap list_of nothing ∙ no_list ∙ ap (λ (l : List Place). Ok (bodies_in disk.seen l)) (sym places);
      at = λ has. absurd (false≢true (sym header ∙ has));
      header = (λ has. absurd (false≢true (sym header ∙ has)), λ some. absurd (omega arith));
      rests = rests;
    }

-- bytes up to a closed gate are a journal with one
pub opens_at : (journal : Held) (disk : DiskState) → IsClosed disk.seen journal.places journal.end → journal.has_header ≡ true → disk.doubt ≡ settled disk.seen → Opens journal disk
opens_at journal disk closed header rests = record {
  list = closed_list disk.seen journal.places journal.end closed;
  at = λ has. record { closed = closed; list = closed_list disk.seen journal.places journal.end closed; rests = rests };
  header = (λ has. omega (arith, closed.inside), λ some. header);
  rests = rests;
}

-- all of the bytes were read
pub read_whole : (len : ℕ) (seen : List ℕ) → len ≡ length seen → take len (drop 0 seen) ≡ seen
read_whole len seen is = take_all len seen (omega arith)
