use mathlib.Core.Path.{refl}
use mathlib.Core.List.{map}
use lib.ListN.{take}
use Rattle.session_reader.specs.Reading.{act_at}
use Rattle.session_engine.proofs.Starting.{newly, ready-as, refused-as, blank-in_pool, in_pool_lem, is-error}
use Rattle.session_engine.proofs.start.open_pool.Goals as goal

pub returns-in_err-open : goal.returns-in_err-open
returns-in_err-open c = let a = c.args in let w = c.pool_words-words.ensures in
    let x = is-error _ _ c.from_residual.ensures.1 in
    record {
      by_index = λ f k. rw x (refused-as a.session.tasks a.session.cells a.session.blocks a.values.now a.pool.now c.requires w.0 w.1 c.blank-state.ensures c.in_err-open.ensures c.open.auto.pool refl (map (act_at f) (take a.session.actions k)));
      opens = rw x tt;
      pool_after = rw x (blank-in_pool a.session.tasks a.session.cells a.session.blocks a.values.now a.pool.now c.requires w.0 w.1 c.blank-state.ensures c.in_err-open.ensures c.open.auto.pool refl);
    }

pub returns : goal.returns
returns c = let a = c.args in let w = c.pool_words-words.ensures in
    let fresh = newly a.session.tasks a.session.cells a.session.blocks a.values.now a.pool.now c.requires w.0 w.1 c.blank-state.ensures c.in_ok-open.ensures c.open.auto.pool refl in
    record {
      by_index = λ f k. ready-as a.session.tasks a.session.cells a.session.blocks a.values.now a.pool.now c.requires w.0 w.1 c.blank-state.ensures c.in_ok-open.ensures c.open.auto.pool refl (map (act_at f) (take a.session.actions k));
      opens = (fresh.0, fresh.1, refl);
      pool_after = in_pool_lem a.session.tasks a.session.cells a.session.blocks a.values.now a.pool.now c.requires w.0 w.1 c.blank-state.ensures c.in_ok-open.ensures c.open.auto.pool;
    }
