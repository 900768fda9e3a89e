-- Each table has its number in row n, which heads its chain.
use native.Mathlib.Omega.{arith}
use Rattle.build.proofs.Steps.{stored_number, stored_words, room_added}
use Rattle.build.proofs.InChains.{chain_put, chains_more}
use Rattle.build.proofs.Rows.add.Goals as goal

pub returns-clause-added : goal.returns-clause-added
returns-clause-added c =
    let room = c.requires.ready.room in
    let e = c.ends-all.ensures in
    record {
      fall_put = stored_number _ _ _ (omega (arith, room.fall_room));
      held_put = stored_number _ _ _ (omega (arith, room.held_room));
      live_put = stored_words _ _ _ (omega (arith, room.live_room)) (omega arith) c.store.ensures;
      out_put = rw (← e.0) (stored_words _ _ _ (omega (arith, room.out_room)) e.1 c.store-2.ensures);
    }

pub returns-clause-ready : goal.returns-clause-ready
returns-clause-ready c =
    let ready = c.requires.ready in
    let put = returns-clause-added c in
    record {
      within = ready.within;
      room = room_added ready.room c.requires.room put;
      chained =
          chains_more ready.chained (chain_put put.fall_put put.live_put c.chain.ensures.0) c.chain.ensures.1 (omega (arith, ready.room.few)) c.put.ensures.first
          c.put.ensures.older;
    }
