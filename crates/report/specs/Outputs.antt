-- The text of what a job answered.
use Rattle.std.specs.Prelude.{◌≡◌, ℕ, ◌+◌, ◌*◌, List, [], ◌∷◌, ◌++◌, map, length, Some, None, vec_items, codes, decimal, Option}
use Rattle.std.specs.List.{flat_map}
use Rattle.std.specs.Option.{option_map}
use Rattle.geometry.specs.Refusals.{number_of}
use Rattle.geometry.specs.Words.{cuboid_text, order_word, point_text}
use Rattle.geometry.specs.declared.frame.Point.{Point}
use Rattle.boxes.specs.declared.record.BoxRecord.{BoxRecord}
use Rattle.job.specs.Jobs.{Reads}
use Rattle.text.specs.Texts.{lines_of}
use Rattle.script.specs.Scripts.{Reply, World, block_of, boxed, counted, held_by, inspection, listed, measured, next, not_taken, overfull, ran, refused, reopened, reply_of, size_of}
use Rattle.script.specs.Tallies.{how_many}
use Rattle.script.specs.Words.{word_of_call}
use Rattle.script.specs.declared.call.Answer.{Answer}
use Rattle.script.specs.declared.session.BlockSize.{BlockSize}
use Rattle.script.specs.declared.session.Report.{Report}
use Rattle.script.specs.declared.tally.Kind.TheVariants.{Granted, Refused, NotTaken}
use Rattle.script.specs.declared.call.Call.{Call}

-- a point in a line of its own
abbrev pub point_line : Point → List ℕ
point_line p = point_text p ++ codes "\n"

-- a box with its number, as 1: (0 0 0)-(1 2 2), in a line of its own
abbrev pub box_line : ℕ → BoxRecord → List ℕ
box_line n r = decimal n ++ (codes ": " ++ (cuboid_text r.cuboid ++ codes "\n"))

-- boxes with the numbers from n on
abbrev pub box_lines : ℕ → List BoxRecord → List ℕ
box_lines n [] = []
box_lines n (r ∷ l) = box_line n r ++ box_lines (n + 1) l

-- the number of a box, or that there is none
abbrev pub number_text : Option ℕ → List ℕ
number_text None = codes "none"
number_text (Some n) = decimal n

-- the lines that a reply prints
abbrev pub reply_text : Reply → List ℕ
reply_text (counted n) = codes "count: " ++ (decimal n ++ codes "\n")
reply_text (listed l) = (codes "corners: " ++ (decimal (length l) ++ codes "\n")) ++ flat_map point_line l
reply_text (inspection o i) = codes "inspect " ++ (order_word o ++ (codes ": " ++ (decimal i.boxes ++ (codes " boxes, volume " ++ (decimal i.volume ++ codes "\n")))))
reply_text (boxed o l) = (codes "cut " ++ (order_word o ++ (codes ": " ++ (decimal (length l) ++ codes " boxes\n")))) ++ box_lines 1 l
reply_text (overfull o e l) = (codes "cut " ++ (order_word o ++ (codes ": refused " ++ (decimal (number_of e) ++ codes "\n")))) ++ box_lines 1 l
reply_text (measured n) = codes "volume: " ++ (decimal n ++ codes "\n")
reply_text (held_by o) = codes "find: " ++ (number_text o ++ codes "\n")
reply_text (next o) = codes "neighbour: " ++ (number_text o ++ codes "\n")
reply_text reopened = codes "reopen: granted\n"
reply_text (refused name e) = word_of_call name ++ (codes ": refused " ++ (decimal (number_of e) ++ codes "\n"))
reply_text (not_taken name) = word_of_call name ++ codes ": not taken\n"

-- the lines that all replies print
abbrev pub answers_text : List Answer → List ℕ
answers_text l = flat_map (λ a. reply_text (reply_of a)) l

-- the line of the last block: its sides, and how many of its cells are solid
abbrev pub size_text : BlockSize → List ℕ
size_text b =
    codes "  last block: " ++ (decimal b.x ++ (codes " x " ++ (decimal b.y ++ (codes " x " ++ (decimal b.z ++ (codes ", " ++ (decimal b.solid ++ (codes " of " ++ (decimal (b.x * b.y * b.z) ++ codes " cells solid\n")))))))))

abbrev pub block_text : Option BlockSize → List ℕ
block_text None = codes "  last block: none\n"
block_text (Some b) = size_text b

-- the line that says how the calls went
abbrev pub counts_text : ℕ → ℕ → ℕ → List ℕ
counts_text g r n =
    codes "  answers: " ++ (decimal g ++ (codes " granted, " ++ (decimal r ++ (codes " refused, " ++ (decimal n ++ codes " not taken\n")))))

abbrev pub tally_text : List Reply → List ℕ
tally_text l = counts_text (how_many Granted l) (how_many Refused l) (how_many NotTaken l)

-- the head of the summary
abbrev pub blocks_text : ℕ → List ℕ
blocks_text n = codes "\nSummary\n  blocks read: " ++ (decimal n ++ codes "\n")

-- all that a job prints: the lines of its replies, and a summary
abbrev pub report_text : Report → List ℕ
report_text r =
    answers_text (vec_items r.answers) ++ blocks_text r.blocks ++ block_text r.last ++ tally_text (map reply_of (vec_items r.answers))

-- the same from the replies, the number of blocks read and the last block
abbrev pub printed : List Reply → ℕ → Option BlockSize → List ℕ
printed rs n last = flat_map reply_text rs ++ blocks_text n ++ block_text last ++ tally_text rs

-- the same from what a script leaves
abbrev pub left_text : World → List ℕ
left_text w = printed w.state.replies w.home.blocks (option_map size_of (block_of w.held))

-- what the calls of a job print
abbrev pub output : List Call → List ℕ
output calls = left_text (ran calls)

-- a text is a job, and this is what it prints: its lines say calls, and the output is that of these
abbrev pub Prints : List ℕ → List ℕ → Type 0
Prints text out = (calls : List Call) × Reads None (lines_of text) calls × (out ≡ output calls)
