use Rattle.std.proofs.Common.{sym, subst, ◌∙◌, arith, length-set, set}
use Rattle.moments_tool.specs.declared.sights.Own.{Own}
use Rattle.moments_tool.proofs.Noting.{Spread, spread_yes, spread_no, noted_alone, noted_all}
use Rattle.moments_tool.proofs.notes.Notes.note.Goals as goal
use Rattle.moments_tool.proofs.notes.Notes.note.Goals.{then-holds, else-holds}

pub loop-u-preserved : goal.loop-u-preserved
loop-u-preserved c = let a = c.args.c in let i = c.args.i in let s = c.loop-u.invariant in
    elim c.if-holds.branch [
      | then-holds w ↦ rw (w.self-inside-is, w.held.ensures) (spread_yes a.call.line a.sight i s.0 (omega (arith, length-set c.self.inside.own a.task c.stepped.result, c.self.invariant)) w.if-holds.true, length-set _ _ _ ∙ s.1)
      | else-holds w ↦ rw w.self-inside-is (spread_no a.call.line a.sight i s.0 w.if-holds.false, s.1)
    ]

pub returns-after-loop-u : goal.returns-after-loop-u
returns-after-loop-u c = let a = c.args.c in let i = c.args.i in let who = c.args.who.now in let own = c.self.inside.own in let l = c.loop-u in
    let s = subst (λ (o : Own). Spread a.call.line a.sight i who (set own a.task o) l.self-inside.own l.u) c.stepped.ensures l.invariant.0 in
    rw (← c.self.view_is, ← c.is_step.ensures, c.if-not-is_step.false) (noted_all a.call.line a.sight i a.call own a.task who (omega (arith, c.self.invariant, a.fits_word.0)) l.self-inside.own l.u s (omega arith))

pub returns-else-spreads : goal.returns-else-spreads
returns-else-spreads c = let a = c.args.c in
    rw (← c.self.view_is, ← c.is_step.ensures, c.if-not-is_step.false, c.stepped.ensures) (noted_alone a.call.line a.sight c.args.i a.call c.self.inside.own a.task c.args.who.now (omega (arith, c.self.invariant, a.fits_word.0)) (sym c.spreads.ensures ∙ c.if-spreads.false))
