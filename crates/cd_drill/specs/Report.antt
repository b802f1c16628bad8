-- What a drill reports.
use Rattle.std.specs.Prelude.{◌≡◌, ℕ, ◌%◌, List, [], ◌∷◌, ◌++◌, length, sum, codes, Bool, true, false, Option, Some, None}
use Rattle.std.specs.Fmt.{decimal}
use Rattle.std.specs.List.{flat_map}
use Rattle.cd_memory_state.specs.Names.{AreNames}
use Rattle.cd_entries.specs.declared.entry.Entry.{Entry}
use Rattle.cd_canonical.specs.Read.{canonical_reading}
use Rattle.cd_stats.specs.Statistics.{statistics}
use Rattle.cd_drill.specs.AtRest.{entries_of, seen_of, names_in}
use Rattle.cd_drill.specs.declared.course.Course.{Course}
use Rattle.cd_drill.specs.declared.test_node.TestNode.{TestNode}
use Rattle.cd_drill.specs.declared.test_pair.TestPair.{TestPair}

-- the sum of a file's bytes, modulo 2^32
abbrev pub sum_of : List ℕ → ℕ
sum_of bytes = sum bytes % 4294967296

-- a file: its name, its length and that sum
abbrev pub file_line : List ℕ → List ℕ → List ℕ
file_line name bytes = codes "FILE " ++ name ++ codes " " ++ decimal (length bytes) ++ codes " " ++ decimal (sum_of bytes) ++ 10 ∷ []

abbrev pub line_of : List ℕ → Option (List ℕ) → List ℕ
line_of name None = []
line_of name (Some bytes) = file_line name bytes

-- the files of these names
abbrev pub file_lines : (List ℕ → Option (List ℕ)) → List (List ℕ) → List ℕ
file_lines seen names = flat_map (λ name. line_of name (seen name)) names

-- a node of this name, and how many entries its journal has
abbrev pub head_line : List ℕ → ℕ → List ℕ
head_line name n = codes "NODE " ++ name ++ codes " UP ENTRIES " ++ decimal n ++ 10 ∷ []

-- what its journal tells, and its files
abbrev pub node_report : List ℕ → List Entry → (List ℕ → Option (List ℕ)) → List (List ℕ) → List ℕ
node_report name entries seen names = head_line name (length entries) ++ statistics canonical_reading entries None ++ file_lines seen names

-- the line of the file of a name was written
abbrev pub WroteFile : Option (List ℕ) → (List ℕ → Option (List ℕ)) → List ℕ → List ℕ → Type 0
WroteFile None seen before after = ⊥
WroteFile (Some name) seen before after = after ≡ before ++ line_of name (seen name)

-- it was, where there is such a file
abbrev pub WroteOne : Bool → Option (List ℕ) → (List ℕ → Option (List ℕ)) → List ℕ → List ℕ → Type 0
WroteOne true named seen before after = WroteFile named seen before after
WroteOne false named seen before after = (named ≡ None) × (after ≡ before)

abbrev pub turns_line : ℕ → List ℕ
turns_line n = codes "TURNS " ++ decimal n ++ 10 ∷ []

abbrev pub half_report : List ℕ → TestNode → List ℕ
half_report name half = node_report name (entries_of half) (seen_of half) (names_in half)

-- what was replied, what each node recorded with its files, and how many turns did something
abbrev pub report_of : Course → List ℕ
report_of course =
    course.out.items ++ half_report (codes "ALPHA") course.pair.a ++ half_report (codes "BETA") course.pair.b ++ turns_line course.turns

-- the names of the files of both are those that have a file, each once, in the order of their bytes
pub record AreNamed (pair : TestPair) : Type 0 where
  pub a : AreNames (names_in pair.a) (seen_of pair.a)
  pub b : AreNames (names_in pair.b) (seen_of pair.b)
