-- The demo's design and its stimulus are accepted for each number of cells that a demo may have, so that none of its demos is refused for them.
use Rattle.std.specs.Prelude.{◌≡◌, ℕ, ◌≤◌, List, length, Option, Some, Ok, ◌⊎◌, nat_le, if◌then◌else◌}
use Rattle.bv_core.specs.Value.{Bits}
use Rattle.listen.specs.Pairs.{Heard}
use Rattle.design_core.specs.declared.Ports.{Ports}
use Rattle.design_core.specs.Design.{Design}
use Rattle.design_judge.specs.Judgement.{AreOfText, IsAccepted, ArePortsOf}
use Rattle.batch_run.specs.Texts.{most_requests}
use Rattle.demo_run.specs.Chain.{chain_source, chain_top}
use Rattle.demo_run.specs.Asked.{Given, Contents, HasRows, AsksDemo, EndsAsAsked}

-- how many cells a demo may have
pub record IsCellCount (n : ℕ) : Type 0 where
  pub some : 1 ≤ n
  pub few : n ≤ 4000

-- the source of the chain is accepted as a design
abbrev pub ChainsAreAccepted : Type 0
ChainsAreAccepted = (n : ℕ) → IsCellCount n → (d : Design) × IsAccepted (chain_top n) (AreOfText chain_source) d

-- and the stimulus has rows for the ports of that design
abbrev pub StimuliAreAccepted : Type 0
StimuliAreAccepted =
    (n : ℕ) → IsCellCount n → (d : Design) → IsAccepted (chain_top n) (AreOfText chain_source) d → (ports : Ports) → ArePortsOf d ports → (rows : List (List Bits)) × HasRows ports (Ok rows)

-- the status that a demo with these requests asks for: 6 where they are too long, else 0
abbrev pub status_for : List ℕ → ℕ
status_for requests = if nat_le (length requests) most_requests then 0 else 6

-- a demo asks for some text with this status, and for no text with another
pub record AsksForStatus (heard : List Heard) (files : Contents) (given : Given) (status : ℕ) : Type 0 where
  pub text : (text : List ℕ) × AsksDemo heard files given status text
  pub only : (other : ℕ) (text : List ℕ) → AsksDemo heard files given other text → other ≡ status

-- so the requests decide the status
abbrev pub RequestsDecide : Type 0
RequestsDecide =
    (heard : List Heard) (files : Contents) (given : Given) (requests : List ℕ) → IsCellCount given.number → files given.requests ≡ Some requests
    → AsksForStatus heard files given (status_for requests)

-- and none is refused for its design or its stimulus, whatever the files hold
abbrev pub NoneIsRefused : Type 0
NoneIsRefused =
    (heard : List Heard) (files : Contents) (given : Given) (status : ℕ) (text : List ℕ) → IsCellCount given.number → AsksDemo heard files given status text
    → (status ≡ 0) ⊎ (status ≡ 6)

-- so none that ends as the files ask ends with the line of a refusal
abbrev pub NoneEndsRefused : Type 0
NoneEndsRefused =
    (heard : List Heard) (files : Contents) (given : Given) (status : ℕ) (old new : Option (List ℕ)) → IsCellCount given.number → EndsAsAsked heard files given status old new
    → (status ≡ 0) ⊎ (status ≡ 6)
