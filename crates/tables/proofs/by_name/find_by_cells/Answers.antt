use Rattle.std.proofs.Common.{sym, refl, ◌∙◌, arith}
use Rattle.tables.specs.by_name.FollowLaws.{follow-none}
use Rattle.tables.specs.by_name.TagLaws.{tag-hit, tag-on, tag-end}
use Rattle.tables.proofs.by_name.find_by_cells.Goals as goal

pub loop-here-init : goal.loop-here-init
loop-here-init c name e =
    refl

pub returns-then-is_tagged : goal.returns-then-is_tagged
returns-then-is_tagged c =
    let a = c.args in
    let l = c.loop-here in
    let b = c.name-bytes.ensures in
    sym (tag-hit a.library.now a.width a.m.now a.key a.name l.here c.loop-here-test.true
    c.tag_at-tag.ensures b c.is_tagged.ensures c.if-is_tagged.true)
    ∙ l.invariant a.name b

pub returns-then-here-tag : goal.returns-then-here-tag
returns-then-here-tag c =
    let a = c.args in
    let l = c.loop-here in
    let b = c.name-bytes.ensures in
    sym (tag-end a.library.now a.width a.m.now a.key a.name l.here c.loop-here-test.true
    c.tag_at-tag.ensures b c.is_tagged.ensures c.if-is_tagged.false (omega (arith, c.if-here-tag.true)))
    ∙ l.invariant a.name b

pub loop-here-preserved : goal.loop-here-preserved
loop-here-preserved c name e =
    let a = c.args in
    let l = c.loop-here in
    sym (tag-on a.library.now a.width a.m.now a.key name l.here c.loop-here-test.true
    c.tag_at-tag.ensures e c.is_tagged.ensures c.if-is_tagged.false c.if-here-tag.false)
    ∙ l.invariant name e

pub returns : goal.returns
returns c =
    let a = c.args in
    let here = c.loop-here.here in
    sym (follow-none a.library.now a.width a.m.now a.key a.name here here c.loop-here-test.false)
    ∙ c.loop-here.invariant a.name c.name-bytes.ensures
