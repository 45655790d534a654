-- `host_readings::credit_words::word_of` meets its contract: −(n + 1) is handed out as 2^64 − 1 − n. Assumes nothing.
use native.Mathlib.Omega.{arith}
use Rattle.host_readings.proofs.Words.{kept-fits, kept, raised-fits, turned-fits, last_fits, last-small, word}
use Rattle.host_readings.proofs.credit_words.word_of.Goals as goal

pub overflow_cast-result : goal.overflow_cast-result
overflow_cast-result c = kept-fits c.args.n c.ranges.n c.if-n-ge0.true

pub returns-then-n-ge0 : goal.returns-then-n-ge0
returns-then-n-ge0 c = kept c.args.n c.ranges.n c.if-n-ge0.true

pub overflow_add-result : goal.overflow_add-result
overflow_add-result c = raised-fits c.args.n c.ranges.n c.if-n-ge0.false

pub overflow_sub-result : goal.overflow_sub-result
overflow_sub-result c = turned-fits c.args.n c.ranges.n c.if-n-ge0.false

pub overflow_cast-result-2 : goal.overflow_cast-result-2
overflow_cast-result-2 c = last_fits c.args.n c.ranges.n c.if-n-ge0.false

pub overflow_sub-result-2 : goal.overflow_sub-result-2
overflow_sub-result-2 c = omega (arith, last-small c.args.n c.ranges.n c.if-n-ge0.false)

pub returns : goal.returns
returns c = word c.args.n c.ranges.n c.if-n-ge0.false
