use Rattle.example_raw_calls.proofs.update_twice.Goals as goal

pub returns-clause-told : goal.returns-clause-told
returns-clause-told g c a b has now =
    let m = c.in_ok-first.ensures.rests a has in record {
      between = m.0.session;
      once = c.in_ok-first.ensures.told a m.0 has m.1;
      again = c.in_ok-second.ensures.told m.0 b m.1 now;
    }
