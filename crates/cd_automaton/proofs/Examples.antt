-- Where the texts of the examples leave the grammar.
use Rattle.std.proofs.Common.{◌≡◌, ℕ, List, length, Result, Err, refl}
use Rattle.std.specs.Prelude.{codes}
use Rattle.cd_ast.specs.declared.fault.FaultName.TheVariants.{Unexpected, Range}
use Rattle.cd_ast.specs.Bytes.{is_blank, is_quote, is_sign_byte, is_word_byte, is_double_sign, opens_comment, closes_comment}
use Rattle.cd_ast.specs.Pieces.{run_len, ends_line, ends_quote, ends_word, is_rest_blank, comment_at, quote_at, sign_at, word_at, piece_at, pieces_after}
use Rattle.cd_ast.specs.Tokens.{spans_from}
use Rattle.cd_grammar.specs.Answers.{strict}
use Rattle.cd_grammar.specs.Words.{said_in, key_of, sign_of}
use Rattle.cd_grammar.specs.Tokens.{without_commas, tokens_of}
use Rattle.cd_grammar.specs.Values.{label_in, front_label_in, number_in, is_own, is_digits, number_of, node_in, symbol_in, hold_in, retain_in, restart_in, is_command}
use Rattle.cd_grammar.specs.Given.{has, with_word, with_quoted, takes_list, with_list, takes_parentheses, side_of, head_slot, copy_slot, from_slot, to_slot, task_slot, job_slot, submit_slot}
use Rattle.cd_grammar.specs.Reading.{Reading, ended, slot_of}
use Rattle.cd_grammar.specs.Later.{Found}
use Rattle.cd_grammar.specs.Faults.{Leaves}
use Rattle.cd_grammar.specs.Grammar.{relation_of, work_of, end_in}
use Rattle.cd_automaton.specs.Machine.{whole, run, next, word_turn, statement_turn, verb_turn, is_opener, bare_state, compress_by, mark_move, value_move, open_move}
use Rattle.cd_automaton.specs.Examples.{examples, EachLeaves}
use Rattle.cd_automaton.proofs.Exact.{fault_leaves}
use Rattle.cd_automaton.proofs.Texts.{text_placed}

-- what the machine answers of a text
abbrev answer : List ℕ → Result Reading Found
answer text = whole strict (length text) (tokens_of text)

leaves : (text : List ℕ) (f : Found) → answer text ≡ Err f → Leaves (length text) (tokens_of text) f
leaves text f e = fault_leaves (length text) (tokens_of text) (text_placed text) f e

at_the_end : answer (codes "P PROCESS") ≡ Err (Unexpected, 9)
unfolding whole run next word_turn statement_turn verb_turn is_opener bare_state compress_by mark_move value_move open_move relation_of work_of end_in ended slot_of has with_word with_quoted takes_list with_list takes_parentheses side_of head_slot copy_slot from_slot to_slot task_slot job_slot submit_slot label_in front_label_in number_in is_own is_digits number_of node_in symbol_in hold_in retain_in restart_in is_command without_commas said_in key_of sign_of spans_from run_len ends_line ends_quote ends_word is_rest_blank comment_at quote_at sign_at word_at piece_at pieces_after is_blank is_quote is_sign_byte is_word_byte is_double_sign opens_comment closes_comment
at_the_end = refl

label_alone : answer (codes "P PROCESS foo") ≡ Err (Unexpected, 13)
unfolding whole run next word_turn statement_turn verb_turn is_opener bare_state compress_by mark_move value_move open_move relation_of work_of end_in ended slot_of has with_word with_quoted takes_list with_list takes_parentheses side_of head_slot copy_slot from_slot to_slot task_slot job_slot submit_slot label_in front_label_in number_in is_own is_digits number_of node_in symbol_in hold_in retain_in restart_in is_command without_commas said_in key_of sign_of spans_from run_len ends_line ends_quote ends_word is_rest_blank comment_at quote_at sign_at word_at piece_at pieces_after is_blank is_quote is_sign_byte is_word_byte is_double_sign opens_comment closes_comment
label_alone = refl

label_of_else : answer (codes "P PROCESS L ELSE") ≡ Err (Unexpected, 12)
unfolding whole run next word_turn statement_turn verb_turn is_opener bare_state compress_by mark_move value_move open_move relation_of work_of end_in ended slot_of has with_word with_quoted takes_list with_list takes_parentheses side_of head_slot copy_slot from_slot to_slot task_slot job_slot submit_slot label_in front_label_in number_in is_own is_digits number_of node_in symbol_in hold_in retain_in restart_in is_command without_commas said_in key_of sign_of spans_from run_len ends_line ends_quote ends_word is_rest_blank comment_at quote_at sign_at word_at piece_at pieces_after is_blank is_quote is_sign_byte is_word_byte is_double_sign opens_comment closes_comment
label_of_else = refl

parameter_twice : answer (codes "P PROCESS SNODE=B PRTY=5 PRTY=6 EXIT PEND") ≡ Err (Unexpected, 29)
unfolding whole run next word_turn statement_turn verb_turn is_opener bare_state compress_by mark_move value_move open_move relation_of work_of end_in ended slot_of has with_word with_quoted takes_list with_list takes_parentheses side_of head_slot copy_slot from_slot to_slot task_slot job_slot submit_slot label_in front_label_in number_in is_own is_digits number_of node_in symbol_in hold_in retain_in restart_in is_command without_commas said_in key_of sign_of spans_from run_len ends_line ends_quote ends_word is_rest_blank comment_at quote_at sign_at word_at piece_at pieces_after is_blank is_quote is_sign_byte is_word_byte is_double_sign opens_comment closes_comment
parameter_twice = refl

parameter_alone : answer (codes "P PROCESS HOLD PRTY=5 PEND") ≡ Err (Unexpected, 15)
unfolding whole run next word_turn statement_turn verb_turn is_opener bare_state compress_by mark_move value_move open_move relation_of work_of end_in ended slot_of has with_word with_quoted takes_list with_list takes_parentheses side_of head_slot copy_slot from_slot to_slot task_slot job_slot submit_slot label_in front_label_in number_in is_own is_digits number_of node_in symbol_in hold_in retain_in restart_in is_command without_commas said_in key_of sign_of spans_from run_len ends_line ends_quote ends_word is_rest_blank comment_at quote_at sign_at word_at piece_at pieces_after is_blank is_quote is_sign_byte is_word_byte is_double_sign opens_comment closes_comment
parameter_alone = refl

long_label : answer (codes "P PROCESS LONGLABEL foo") ≡ Err (Range, 10)
unfolding whole run next word_turn statement_turn verb_turn is_opener bare_state compress_by mark_move value_move open_move relation_of work_of end_in ended slot_of has with_word with_quoted takes_list with_list takes_parentheses side_of head_slot copy_slot from_slot to_slot task_slot job_slot submit_slot label_in front_label_in number_in is_own is_digits number_of node_in symbol_in hold_in retain_in restart_in is_command without_commas said_in key_of sign_of spans_from run_len ends_line ends_quote ends_word is_rest_blank comment_at quote_at sign_at word_at piece_at pieces_after is_blank is_quote is_sign_byte is_word_byte is_double_sign opens_comment closes_comment
long_label = refl

other_label : answer (codes "P PROCESS SNODE=B -x EXIT PEND") ≡ Err (Range, 18)
unfolding whole run next word_turn statement_turn verb_turn is_opener bare_state compress_by mark_move value_move open_move relation_of work_of end_in ended slot_of has with_word with_quoted takes_list with_list takes_parentheses side_of head_slot copy_slot from_slot to_slot task_slot job_slot submit_slot label_in front_label_in number_in is_own is_digits number_of node_in symbol_in hold_in retain_in restart_in is_command without_commas said_in key_of sign_of spans_from run_len ends_line ends_quote ends_word is_rest_blank comment_at quote_at sign_at word_at piece_at pieces_after is_blank is_quote is_sign_byte is_word_byte is_double_sign opens_comment closes_comment
other_label = refl

reference_in_label : answer (codes "P PROCESS SNODE=B x&a=B EXIT PEND") ≡ Err (Unexpected, 18)
unfolding whole run next word_turn statement_turn verb_turn is_opener bare_state compress_by mark_move value_move open_move relation_of work_of end_in ended slot_of has with_word with_quoted takes_list with_list takes_parentheses side_of head_slot copy_slot from_slot to_slot task_slot job_slot submit_slot label_in front_label_in number_in is_own is_digits number_of node_in symbol_in hold_in retain_in restart_in is_command without_commas said_in key_of sign_of spans_from run_len ends_line ends_quote ends_word is_rest_blank comment_at quote_at sign_at word_at piece_at pieces_after is_blank is_quote is_sign_byte is_word_byte is_double_sign opens_comment closes_comment
reference_in_label = refl

large_number : answer (codes "P PROCESS PRTY=16 PEND") ≡ Err (Range, 15)
unfolding whole run next word_turn statement_turn verb_turn is_opener bare_state compress_by mark_move value_move open_move relation_of work_of end_in ended slot_of has with_word with_quoted takes_list with_list takes_parentheses side_of head_slot copy_slot from_slot to_slot task_slot job_slot submit_slot label_in front_label_in number_in is_own is_digits number_of node_in symbol_in hold_in retain_in restart_in is_command without_commas said_in key_of sign_of spans_from run_len ends_line ends_quote ends_word is_rest_blank comment_at quote_at sign_at word_at piece_at pieces_after is_blank is_quote is_sign_byte is_word_byte is_double_sign opens_comment closes_comment
large_number = refl

no_number : answer (codes "P PROCESS PRTY=abc PEND") ≡ Err (Unexpected, 15)
unfolding whole run next word_turn statement_turn verb_turn is_opener bare_state compress_by mark_move value_move open_move relation_of work_of end_in ended slot_of has with_word with_quoted takes_list with_list takes_parentheses side_of head_slot copy_slot from_slot to_slot task_slot job_slot submit_slot label_in front_label_in number_in is_own is_digits number_of node_in symbol_in hold_in retain_in restart_in is_command without_commas said_in key_of sign_of spans_from run_len ends_line ends_quote ends_word is_rest_blank comment_at quote_at sign_at word_at piece_at pieces_after is_blank is_quote is_sign_byte is_word_byte is_double_sign opens_comment closes_comment
no_number = refl

symbolic_name : answer (codes "P PROCESS &a.=5 PEND") ≡ Err (Range, 10)
unfolding whole run next word_turn statement_turn verb_turn is_opener bare_state compress_by mark_move value_move open_move relation_of work_of end_in ended slot_of has with_word with_quoted takes_list with_list takes_parentheses side_of head_slot copy_slot from_slot to_slot task_slot job_slot submit_slot label_in front_label_in number_in is_own is_digits number_of node_in symbol_in hold_in retain_in restart_in is_command without_commas said_in key_of sign_of spans_from run_len ends_line ends_quote ends_word is_rest_blank comment_at quote_at sign_at word_at piece_at pieces_after is_blank is_quote is_sign_byte is_word_byte is_double_sign opens_comment closes_comment
symbolic_name = refl

restart_of_job : answer (codes "P PROCESS RUN JOB SYSOPTS='x' RESTART=NO PEND") ≡ Err (Unexpected, 37)
unfolding whole run next word_turn statement_turn verb_turn is_opener bare_state compress_by mark_move value_move open_move relation_of work_of end_in ended slot_of has with_word with_quoted takes_list with_list takes_parentheses side_of head_slot copy_slot from_slot to_slot task_slot job_slot submit_slot label_in front_label_in number_in is_own is_digits number_of node_in symbol_in hold_in retain_in restart_in is_command without_commas said_in key_of sign_of spans_from run_len ends_line ends_quote ends_word is_rest_blank comment_at quote_at sign_at word_at piece_at pieces_after is_blank is_quote is_sign_byte is_word_byte is_double_sign opens_comment closes_comment
restart_of_job = refl

else_alone : answer (codes "P PROCESS EXIT ELSE PEND") ≡ Err (Unexpected, 15)
unfolding whole run next word_turn statement_turn verb_turn is_opener bare_state compress_by mark_move value_move open_move relation_of work_of end_in ended slot_of has with_word with_quoted takes_list with_list takes_parentheses side_of head_slot copy_slot from_slot to_slot task_slot job_slot submit_slot label_in front_label_in number_in is_own is_digits number_of node_in symbol_in hold_in retain_in restart_in is_command without_commas said_in key_of sign_of spans_from run_len ends_line ends_quote ends_word is_rest_blank comment_at quote_at sign_at word_at piece_at pieces_after is_blank is_quote is_sign_byte is_word_byte is_double_sign opens_comment closes_comment
else_alone = refl

behind_the_end : answer (codes "P PROCESS PEND; PEND") ≡ Err (Unexpected, 16)
unfolding whole run next word_turn statement_turn verb_turn is_opener bare_state compress_by mark_move value_move open_move relation_of work_of end_in ended slot_of has with_word with_quoted takes_list with_list takes_parentheses side_of head_slot copy_slot from_slot to_slot task_slot job_slot submit_slot label_in front_label_in number_in is_own is_digits number_of node_in symbol_in hold_in retain_in restart_in is_command without_commas said_in key_of sign_of spans_from run_len ends_line ends_quote ends_word is_rest_blank comment_at quote_at sign_at word_at piece_at pieces_after is_blank is_quote is_sign_byte is_word_byte is_double_sign opens_comment closes_comment
behind_the_end = refl

pub each_leaves : EachLeaves examples
each_leaves = (leaves _ _ at_the_end, (leaves _ _ label_alone, (leaves _ _ label_of_else, (leaves _ _ parameter_twice, (leaves _ _ parameter_alone, (leaves _ _ long_label, (leaves _ _ other_label, (leaves _ _ reference_in_label, (leaves _ _ large_number, (leaves _ _ no_number, (leaves _ _ symbolic_name, (leaves _ _ restart_of_job, (leaves _ _ else_alone, (leaves _ _ behind_the_end, tt))))))))))))))
