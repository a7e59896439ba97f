use Rattle.kanal_script.proofs.Common.{[], refl, sym, ap, subst, ◌∙◌, arith, take, Appends, WriteAppends}
use Rattle.kanal_script.proofs.Texts.{IsPrintedTo, appends_none, begun, done, kept_none, piece_more, piece_none}
use Rattle.kanal_script.proofs.program.write_pieces.Goals as goal
use Rattle.kanal_script.proofs.program.write_pieces.Goals.{in-Ok, in-Err}

pub loop-init : goal.loop-init
loop-init g c = ([], appends_none _, refl)

pub returns-then-is_empty-clause-ok : goal.returns-then-is_empty-clause-ok
returns-then-is_empty-clause-ok g c =
    done _ _ c.loop.rest.now c.args.text.now (grind (arith, c.is_empty.ensures, c.if-is_empty.true)) c.loop.invariant

pub returns-in-Ok-eq0-clause-begun : goal.returns-in-Ok-eq0-clause-begun
returns-in-Ok-eq0-clause-begun g c =
    let wrote = subst (λ r. WriteAppends (g.W.Write.contents c.loop.output) (g.W.Write.contents c.write.new.self) r c.loop.rest.now) c.in-Ok-eq0.is c.write.ensures.bytes in
    let nothing = subst (λ n. Appends (g.W.Write.contents c.loop.output) (g.W.Write.contents c.write.new.self) (take n c.loop.rest.now)) c.in-Ok-eq0.field-0-test wrote in
    begun _ _ c.loop.rest.now c.args.text.now (piece_none _ _ _ c.loop.rest.now c.args.text.now c.loop.invariant nothing)

pub returns-in-Err-2-clause-begun : goal.returns-in-Err-2-clause-begun
returns-in-Err-2-clause-begun g c =
    begun _ _ c.loop.rest.now c.args.text.now (piece_none _ _ _ c.loop.rest.now c.args.text.now c.loop.invariant (kept_none _ _ c.in-Err-2.ensures.bytes))

pub loop-preserved : goal.loop-preserved
loop-preserved g c = elim c.match-write.branch [
  | in-Ok w ↦ piece_more _ _ _ w.in-Ok.count c.loop.rest.now c.match-write.rest.now c.args.text.now (ap (λ (b : _). b.now) w.rest-is ∙ w.split_at.ensures.back) c.loop.invariant w.in-Ok.ensures.bytes
  | in-Err w ↦ subst (λ (b : _). IsPrintedTo (g.W.Write.contents c.args.output.now) (g.W.Write.contents c.write.new.self) b.now c.args.text.now) (sym w.rest-is) (piece_none _ _ _ c.loop.rest.now c.args.text.now c.loop.invariant (kept_none _ _ w.in-Err.ensures.bytes))
]

pub returns-clause-begun : goal.returns-clause-begun
returns-clause-begun g c = begun _ _ c.loop.rest.now c.args.text.now c.loop.invariant
