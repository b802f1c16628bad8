use Rattle.std.proofs.Common.{◌≡◌, ◌+◌, drop}
use Rattle.cd_grammar.specs.Values.{item_len}
use Rattle.cd_grammar.proofs.values.item_len.Given as goal

abbrev pub invariant-loop-byte : goal.invariant-loop-byte
invariant-loop-byte l = record {
  counted : l.len ≡ l.byte-index;
  rest : item_len l.text ≡ l.len + item_len (drop l.byte-index l.text);
}
