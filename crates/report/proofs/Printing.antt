-- Texts that are made of pieces, and what a report prints.
use Rattle.std.proofs.Common.{◌≡◌, ℕ, ◌+◌, ◌<◌, List, [], ◌∷◌, ◌++◌, map, length, get_or, drop, vec_items, sym, refl, ap, ◌∙◌}
use Rattle.std.proofs.lemmas.List.{append_assoc, drop_more}
use Rattle.std.specs.List.{flat_map}
use Rattle.std.specs.Option.{option_map}
use Rattle.script.proofs.Plainly.{plain_blocks, plain_last, plain_replies}
use Rattle.script.specs.Plain.{PlainCall, call_of}
use Rattle.script.specs.Scripts.{block_of, ran, reply_of, size_of}
use Rattle.boxes.specs.declared.record.BoxRecord.{BoxRecord}
use Rattle.script.specs.declared.call.Answer.{Answer}
use Rattle.script.specs.declared.call.Call.{Call}
use Rattle.script.specs.declared.session.Report.{Report}
use Rattle.report.specs.Plain.{plain_output}
use Rattle.report.specs.Outputs.{answers_text, block_text, blocks_text, box_line, box_lines, output, printed, reply_text, report_text, tally_text}

-- the lines of answers are those of their replies
answers_are : (l : List Answer) → answers_text l ≡ flat_map reply_text (map reply_of l)
answers_are [] = refl
answers_are (a ∷ l) = ap (λ t. reply_text (reply_of a) ++ t) (answers_are l)

-- a report of what the calls replied, read and left prints the output of the calls
pub report_prints : (r : Report) (calls : List Call) → map reply_of (vec_items r.answers) ≡ (ran calls).state.replies → r.blocks ≡ (ran calls).home.blocks → r.last ≡ option_map size_of (block_of (ran calls).held) → report_text r ≡ output calls
report_prints r calls answers blocks last =
    ap (λ t. t ++ blocks_text r.blocks ++ block_text r.last ++ tally_text (map reply_of (vec_items r.answers))) (answers_are (vec_items r.answers))
    ∙ (λ i. printed (answers i) (blocks i) (last i))

-- plain calls print what they print as calls of a script
pub prints_plainly : (cs : List PlainCall) → output (map call_of cs) ≡ plain_output cs
prints_plainly cs = λ i. printed (plain_replies cs i) (plain_blocks cs i) (option_map size_of (plain_last cs i))

-- one box more
pub boxes_more : (xs : List BoxRecord) (i : ℕ) (d : BoxRecord) (done all : List ℕ) → i < length xs → done ++ box_lines (i + 1) (drop i xs) ≡ all → (done ++ box_line (i + 1) (get_or xs i d)) ++ box_lines (i + 1 + 1) (drop (i + 1) xs) ≡ all
boxes_more xs i d done all within so_far =
    append_assoc done (box_line (i + 1) (get_or xs i d)) (box_lines (i + 1 + 1) (drop (i + 1) xs))
    ∙ ap (λ l. done ++ box_lines (i + 1) l) (sym (drop_more xs i d within))
    ∙ so_far
