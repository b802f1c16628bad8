-- What an append leaves, from what its two writes leave.
use Rattle.std.proofs.Common.{◌≡◌, ℕ, ◌+◌, ◌≤◌, List, [], ◌∷◌, ◌++◌, length, sym, ◌∙◌, ap, subst, refl, inl, ⊎_elim}
use Rattle.byteorder.specs.Endian.{big_bytes}
use Rattle.byteorder.specs.Numbers.{length-bytes_high_first}
use Rattle.cd_outside.specs.Content.{overwritten}
use Rattle.cd_outside.specs.Doubt.{Doubt, IsImage, settled}
use Rattle.cd_outside.specs.Disk.{DiskState, LeftAt, last_of}
use Rattle.cd_outside.specs.Moments.{Moments}
use Rattle.cd_outside.specs.Through.{IsSettledAs}
use Rattle.cd_outside.proofs.Images.{settled_image}
use Rattle.cd_outside.proofs.Runs.{moments_weaker, moments_none}
use Rattle.cd_journal.specs.Bytes.{list_of}
use Rattle.cd_journal.specs.Index.{IsBelow, IsClosed}
use Rattle.cd_journal.specs.Journal.{Held, IsAt, IsBeforeOrAfter, with_last, entry_block}
use Rattle.cd_journal.specs.Writing.{staged, opened, IsTornEntry}
use Rattle.cd_journal.proofs.Steps.{closed_list}
use Rattle.cd_journal.proofs.Append.{told_length-back, torn_behind, torn_gate, final_closed, final_list}

block_parts : (body block : List ℕ) → block ≡ entry_block body → block ≡ (big_bytes 4 (length body) ++ body) ++ 0 ∷ []
unfolding entry_block
block_parts body block is = is

staged_is : (gate : ℕ) (block bytes : List ℕ) → staged gate block bytes ≡ overwritten (gate + 1) block bytes
unfolding staged
staged_is gate block bytes = refl

opened_is : (gate : ℕ) (block bytes : List ℕ) → opened gate block bytes ≡ overwritten gate (1 ∷ []) (staged gate block bytes)
unfolding opened
opened_is gate block bytes = refl

module _ (journal : Held) (disk : DiskState) (is : IsAt journal disk) (body block : List ℕ) (block_is : block ≡ entry_block body) (low : 1 ≤ length body) (high : length body ≤ 262144) where
  abbrev len : List ℕ
  len = big_bytes 4 (length body)

  abbrev after_staged : List ℕ
  after_staged = staged journal.end block disk.seen

  abbrev after_opened : List ℕ
  after_opened = opened journal.end block disk.seen

  -- a stop within leaves the list as it was, or with the body
  pub torn_entry : (image : List ℕ) → IsTornEntry journal.end block disk.seen image → IsBeforeOrAfter disk.seen body image
  torn_entry image torn = ⊎_elim
      (λ first. inl (torn_behind disk.seen journal.places journal.end is.closed body len block after_staged after_opened (length-bytes_high_first 4 (length body)) (told_length-back (length body) high) (block_parts body block block_is) (staged_is journal.end block disk.seen) (opened_is journal.end block disk.seen) low high image (length block) first))
      (λ second. torn_gate disk.seen journal.places journal.end is.closed body len block after_staged after_opened (length-bytes_high_first 4 (length body)) (told_length-back (length body) high) (block_parts body block block_is) (staged_is journal.end block disk.seen) (opened_is journal.end block disk.seen) low high image second)
      torn

  pub entry_moments : (before : DiskState) (after : DiskState) (from : ℕ) → Moments (LeftAt before) (LeftAt after) from (IsTornEntry journal.end block disk.seen) → Moments (LeftAt before) (LeftAt after) from (IsBeforeOrAfter disk.seen body)
  entry_moments before after from run = moments_weaker (LeftAt before) (LeftAt after) from (IsTornEntry journal.end block disk.seen) (IsBeforeOrAfter disk.seen body) torn_entry run

  pub entry_list : (after : DiskState) → IsSettledAs after_opened after → list_of after.seen ≡ with_last (list_of disk.seen) body
  entry_list after done =
      ap list_of done.seen
      ∙ final_list disk.seen journal.places journal.end is.closed body len block after_staged after_opened (length-bytes_high_first 4 (length body)) (told_length-back (length body) high) (block_parts body block block_is) (staged_is journal.end block disk.seen) (opened_is journal.end block disk.seen) low high

  -- the journal stands on the new content
  pub entry_at : IsBelow journal.places journal.end → (after : DiskState) (new : Held) → IsSettledAs after_opened after → new.places ≡ journal.places ++ (record { at = journal.end + 5; len = length body }) ∷ [] → new.end ≡ journal.end + 5 + length body → IsAt new after
  entry_at below after new done places end =
      let closed_there = final_closed disk.seen journal.places journal.end is.closed body len block after_staged after_opened (length-bytes_high_first 4 (length body)) (told_length-back (length body) high) (block_parts body block block_is) (staged_is journal.end block disk.seen) (opened_is journal.end block disk.seen) low high below in
      let closed_new : IsClosed after.seen new.places new.end = rw (done.seen, places, end) closed_there in
      record {
        closed = closed_new;
        list = closed_list after.seen new.places new.end closed_new;
        rests = done.doubt ∙ ap settled (sym done.seen);
      }

-- where nothing was done the list is as it was
pub nothing_done : (journal : Held) (disk : DiskState) (from : ℕ) (body : List ℕ) → IsAt journal disk → last_of disk.calls ≤ from → Moments (LeftAt disk) (LeftAt disk) from (IsBeforeOrAfter disk.seen body)
nothing_done journal disk from body is order =
    moments_none disk disk from (IsBeforeOrAfter disk.seen body) refl order (λ image left. inl (ap list_of (settled_image disk.seen image (subst (λ (d : Doubt). IsImage d image) is.rests left))))
