use Rattle.std.proofs.Common.{◌*◌, arith, rules}
use lib.Count.{ones-le}
use Rattle.body.proofs.GridCounts.{row_total_last, row_total_le, row_total_word}
use Rattle.body.proofs.grid.Row.count.Goals as goal

pub overflow_add-count : goal.overflow_add-count
overflow_add-count c =
    let more = ones-le 64 c.word.result c.word.type_inv in
    let so_far = row_total_le c.args.self.words.now c.args.self.base (64 * c.loop-w.w) in
    search rules

pub loop-w-preserved : goal.loop-w-preserved
loop-w-preserved c = row_total_word c.args.self.words.now c.args.self.base c.loop-w.w c.loop-w.count c.loop-w.invariant c.word.result c.word.ensures c.word.type_inv

pub overflow_add-result : goal.overflow_add-result
overflow_add-result c =
    let all = row_total_last c.args.self.words.now c.args.self.base c.loop-w.w c.loop-w.count c.loop-w.invariant c.word-2.result c.args.side (omega arith) c.word-2.ensures in
    let bound = row_total_le c.args.self.words.now c.args.self.base c.args.side in
    search rules

pub returns : goal.returns
returns c = row_total_last c.args.self.words.now c.args.self.base c.loop-w.w c.loop-w.count c.loop-w.invariant c.word-2.result c.args.side (omega arith) c.word-2.ensures
