-- What a seek ahead costs, by where the cursor stood.
use Rattle.std.proofs.Common.{◌≡◌, ℕ, ◌+◌, ◌-◌, ◌≤◌, Option, Some, arith}
use Rattle.sim_hist.specs.Kept.{IsSoughtIn}

pub cost_ahead : (cycles : ℕ) (cursor : Option ℕ) (t before after steps now c : ℕ) → cursor ≡ Some c → c ≤ t → IsSoughtIn cycles cursor t before after steps now → now ≤ steps + (t - c)
cost_ahead cycles cursor t before after steps now c e h s =
    let few = s.sought.costs.ahead c e h in
    let is = s.steps in
    omega (arith, few, is)
