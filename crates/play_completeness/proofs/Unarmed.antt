-- Where no write is to fail, what befalls is what is due.
use Rattle.std.proofs.Common.{◌≡◌, ℕ, ◌++◌, Option, Some, None, refl, ap}
use Rattle.world.specs.Worlds.{World}
use Rattle.play_model.specs.declared.dues.Due.{Due}
use Rattle.play_model.specs.States.{PlayState, world_of}
use Rattle.play_model.specs.Dues.{queues_after, after_due}
use Rattle.play_model.specs.Faults.{Faults, write_node, number_at, events_with, run_down, befalls}

none-at : (faults : Faults) (node : Option ℕ) → ((n : ℕ) → faults n ≡ 0) → number_at faults node ≡ 0
none-at faults None none = refl
none-at faults (Some n) none = none n

pub befalls-due : (p : PlayState) (d : Due) → ((n : ℕ) → p.faults n ≡ 0) → befalls p d ≡ after_due p d
unfolding befalls after_due
befalls-due p d none =
    let w : World = world_of p in
    ap (λ (n : ℕ). record p { events = p.events ++ events_with n w p.queues d; queues = queues_after w p.queues d; faults = run_down n (write_node w d) p.faults })
    (none-at p.faults (write_node w d) none)
