-- A script that was run.
use Rattle.std.proofs.Common.{◌≡◌, ℕ, List, Ok, sym, ap, subst, ◌∙◌}
use Rattle.std.specs.Prelude.{map, reverse}
use Rattle.std.proofs.lemmas.Simd.{map-map}
use Rattle.cd_drill_script.specs.Script.{Order, orders_of}
use Rattle.cd_drill_script.specs.Seen.{seen_line, seen_order}
use Rattle.cd_drill_script.specs.declared.order.Numbered.{Numbered}
use Rattle.cd_drill.specs.Course.{Ran}
use Rattle.cd_drill.specs.Drilled.{WasRun}
use Rattle.cd_drill.specs.Kept.{is_reserved}
use Rattle.cd_drill.specs.Pairs.{AreAtRest}
use Rattle.cd_drill.specs.Report.{report_of, AreNamed}
use Rattle.cd_drill.specs.declared.course.Course.{Course}

-- the orders of these lines
orders_are : (given lines : List Numbered) → given ≡ lines → reverse (map (λ line. seen_order line.order) given) ≡ reverse (map (λ line. line.1) (map seen_line lines))
orders_are given lines same = ap (λ (l : List Numbered). reverse (map (λ line. seen_order line.order) l)) same ∙ ap reverse (sym (map-map (λ (line : ℕ × Order). line.1) seen_line lines))

pub was_run : (script report : List ℕ) (given lines : List Numbered) (course : Course) → orders_of is_reserved script ≡ Ok (map seen_line lines) → given ≡ lines
    → Ran (reverse (map (λ line. seen_order line.order) given)) course → AreAtRest course.pair → report ≡ report_of course → AreNamed course.pair
    → WasRun script report course
was_run script report given lines course read same ran rest reported named = record {
  orders = map seen_line lines;
  read = read;
  ran = subst (λ (orders : List Order). Ran orders course) (orders_are given lines same) ran;
  legal_a = rest.a.home.legal;
  legal_b = rest.b.home.legal;
  reported = reported;
  named = named;
}
