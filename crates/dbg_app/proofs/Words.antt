-- The words of a service, by their places.
use Rattle.std.proofs.Common.{arith, ◌≡◌, ◌≤◌, ℕ, List, [], ◌∷◌, None, Some, Option, get_or, slice_get, drop, length, refl, ◌∙◌}
use Rattle.std.specs.Prelude.{option_and_then}
use Rattle.std.proofs.lemmas.Option.{get_or_from_slice_get}
use Rattle.world_core.specs.declared.mode.Mode.{Mode}
use Rattle.dbg_app.specs.Number.{number_to}
use Rattle.dbg_app.specs.Command.{Trail, Command, command_with}
use Rattle.dbg_app.specs.Offer.{Offer, offered_to, most_of, offer_with}
use Rattle.dbg_app.specs.declared.offer.Manner.{Manner}

offer_is : (manner : Manner) (mode : Mode) (words : List (List ℕ)) → 7 ≤ length words
    → offer_with manner mode words
    ≡ option_and_then (offered_to manner (get_or words 4 []) (command_with Trail (get_or words 2 []) (Some (get_or words 3 [])) None (get_or words 6 []) (drop 7 words) mode)) (number_to (most_of manner) (get_or words 5 []))
offer_is manner mode (a ∷ b ∷ c ∷ d ∷ e ∷ f ∷ g ∷ rest) enough = refl
offer_is manner mode [] enough = absurd (omega (arith, enough))
offer_is manner mode (a ∷ []) enough = absurd (omega (arith, enough))
offer_is manner mode (a ∷ b ∷ []) enough = absurd (omega (arith, enough))
offer_is manner mode (a ∷ b ∷ c ∷ []) enough = absurd (omega (arith, enough))
offer_is manner mode (a ∷ b ∷ c ∷ d ∷ []) enough = absurd (omega (arith, enough))
offer_is manner mode (a ∷ b ∷ c ∷ d ∷ e ∷ []) enough = absurd (omega (arith, enough))
offer_is manner mode (a ∷ b ∷ c ∷ d ∷ e ∷ f ∷ []) enough = absurd (omega (arith, enough))

-- by what stands at each of them
pub offer_of_words : (manner : Manner) (mode : Mode) (words : List (List ℕ)) (source stimulus address count top : List ℕ) → 7 ≤ length words
    → slice_get words 2 ≡ Some source → slice_get words 3 ≡ Some stimulus → slice_get words 4 ≡ Some address → slice_get words 5 ≡ Some count → slice_get words 6 ≡ Some top
    → offer_with manner mode words ≡ option_and_then (offered_to manner address (command_with Trail source (Some stimulus) None top (drop 7 words) mode)) (number_to (most_of manner) count)
offer_of_words manner mode words source stimulus address count top enough second third fourth fifth sixth =
    let a = get_or_from_slice_get words 2 source [] second in
    let b = get_or_from_slice_get words 3 stimulus [] third in
    let d = get_or_from_slice_get words 4 address [] fourth in
    let e = get_or_from_slice_get words 5 count [] fifth in
    let f = get_or_from_slice_get words 6 top [] sixth in
    offer_is manner mode words enough ∙ (λ k. option_and_then (offered_to manner (d k) (command_with Trail (a k) (Some (b k)) None (f k) (drop 7 words) mode)) (number_to (most_of manner) (e k)))
