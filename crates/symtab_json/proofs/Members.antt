-- An object's members are written one behind another.
use Rattle.std.proofs.Common.{◌≡◌, ℕ, List, ◌∷◌, ◌++◌, Bool, true, ap, ◌∙◌, append_assoc}
use Rattle.json.specs.Print.{quoted}
use Rattle.serde_json.specs.Data.{Data, Members, member}
use Rattle.serde_json.specs.Written.{comma_if, compact_text, members_text}

-- a member that was added, with those behind it
pub member_more : (old new : List ℕ) (later : Bool) (key : List ℕ) (value : Data) (ms : Members) →
    new ≡ old ++ (comma_if later ++ (quoted key ++ 58 ∷ compact_text value)) →
    new ++ members_text true ms ≡ old ++ members_text later (member key value ms)
member_more old new later key value ms added =
    ap (λ (t : List ℕ). t ++ members_text true ms) added
    ∙ append_assoc old _ (members_text true ms)
    ∙ ap (λ (t : List ℕ). old ++ t) (append_assoc (comma_if later) _ (members_text true ms)
    ∙ ap (λ (t : List ℕ). comma_if later ++ t) (append_assoc (quoted key) _ (members_text true ms)))
