-- `records::rules::read_literals` meets its contract: the literal that is handed on, and its variable, are those of the byte. Assumes nothing.
use Rattle.std.proofs.Common.{◌≡◌, refl, ap, ◌∙◌, get_or}
use mir.Syntax.{w8}
use mir.Val.{to_z, of_z}
use Rattle.literals.specs.Literal.{variable, of_byte}
use Rattle.records.proofs.LiteralLaws.{handed_byte, gathered_none, gathered_more, out_of_order}
use Rattle.records.proofs.rules.read_literals.Goals as goal

pub loop-b-init : goal.loop-b-init
loop-b-init c = gathered_none _ _

pub returns-then-v-last : goal.returns-then-v-last
returns-then-v-last c =
    let handed : to_z w8 (of_z w8 c.of_byte-l.result) ≡ of_byte (get_or c.args.s.now c.loop-b.b-index 0) = handed_byte (record { sfits = c.of_byte-l.type_inv }) c.of_byte-l.ensures in
    let seen : c.variable-v.result ≡ variable (of_byte (get_or c.args.s.now c.loop-b.b-index 0)) = c.variable-v.ensures ∙ ap variable handed in
    rw (out_of_order _ _ c.loop-b.invariant c.loop-b-test.true seen c.then-v-last.either) refl

pub loop-b-preserved : goal.loop-b-preserved
loop-b-preserved c =
    let handed : to_z w8 (of_z w8 c.of_byte-l.result) ≡ of_byte (get_or c.args.s.now c.loop-b.b-index 0) = handed_byte (record { sfits = c.of_byte-l.type_inv }) c.of_byte-l.ensures in
    let seen : c.variable-v.result ≡ variable (of_byte (get_or c.args.s.now c.loop-b.b-index 0)) = c.variable-v.ensures ∙ ap variable handed in
    gathered_more _ _ c.loop-b.invariant c.loop-b-test.true seen c.if-v-last.false c.if-n-v.false (rw handed at c.with-set.ensures)
