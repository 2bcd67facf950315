use Rattle.std.proofs.Common.{◌∙◌, arith}
use Rattle.describe.specs.WordLaws.{word-taken, word-passed, words-end}
use Rattle.describe.proofs.vocabulary.one_of.Goals as goal

pub returns-in-Some : goal.returns-in-Some
returns-in-Some c =
    let a = c.args in
    let l = c.loop-word in
    let found = c.in-Some.ensures.cases in
    word-taken a.words.now l.word-index _ (omega arith) a.name.now found.0 found.1 ∙ l.invariant

pub loop-word-preserved : goal.loop-word-preserved
loop-word-preserved c =
    let a = c.args in
    let l = c.loop-word in
    word-passed a.words.now l.word-index _ (omega arith) a.name.now c.in_default.ensures.cases ∙ l.invariant

pub returns : goal.returns
returns c =
    let a = c.args in
    words-end a.words.now c.loop-word.word-index (omega arith) a.name.now ∙ c.loop-word.invariant
