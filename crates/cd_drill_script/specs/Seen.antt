-- What contracts see of orders in the program.
use Rattle.std.specs.Prelude.{ℕ}
use Rattle.cd_drill_script.specs.declared.order.Numbered.{Numbered}
use Rattle.cd_drill_script.specs.declared.order.Order.{Order as Told}
use Rattle.cd_drill_script.specs.declared.order.Order.TheVariants as told
use Rattle.cd_drill_script.specs.Script.{Order, Text, Fill, Do, Turn}

abbrev pub seen_order : Told → Order
seen_order (told.Text party name bytes) = Text party name.now bytes.now
seen_order (told.Fill party name count) = Fill party name.now count
seen_order (told.Do party command) = Do party command.now
seen_order (told.Turn n) = Turn n

abbrev pub seen_line : Numbered → ℕ × Order
seen_line numbered = (numbered.line, seen_order numbered.order)
