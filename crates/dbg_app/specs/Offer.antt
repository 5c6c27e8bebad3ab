-- The words of a service.
use Rattle.std.specs.Prelude.{ℕ, List, ◌∷◌, Option, Some, None, option_map, option_and_then, codes, bytes_eq, if◌then◌else◌, ⊤}
use Rattle.world_core.specs.declared.mode.Mode.{Mode}
use Rattle.dbg_app.specs.Number.{number_to}
use Rattle.dbg_app.specs.Command.{Trail, Command, command_with, mode_of}
use Rattle.dbg_app.specs.Call.{is_some_word}
use Rattle.dbg_app.specs.Answers.{Contents}
use Rattle.dbg_app.specs.declared.offer.Manner.{Manner}
use Rattle.dbg_app.specs.declared.offer.Manner.TheVariants.{InTurn, AtOnce}

-- a service: its files, which are judged as those of a trail; how clients are served; where they attach; and how many times the door is asked
pub record Offer : Type 0 where
  pub files : Command
  pub manner : Manner
  pub address : List ℕ
  pub count : ℕ

abbrev pub offered : Manner → List ℕ → ℕ → Command → Offer
offered manner address count command = record { files = command; manner = manner; address = address; count = count }

abbrev pub offered_to : Manner → List ℕ → Option Command → ℕ → Option Offer
offered_to manner address command count = option_map (offered manner address count) command

-- the first word: `serve`, for at most 16 clients, or `serveall`, for at most 8
abbrev pub manner_of : List ℕ → Option Manner
manner_of word = if bytes_eq word (codes "serve") then Some InTurn else if bytes_eq word (codes "serveall") then Some AtOnce else None

abbrev pub most_of : Manner → ℕ
most_of InTurn = 16
most_of AtOnce = 8

-- the words behind the mode
abbrev pub offer_with : Manner → Mode → List (List ℕ) → Option Offer
offer_with manner mode (word ∷ second ∷ source ∷ stimulus ∷ address ∷ count ∷ top ∷ rest) =
    option_and_then (offered_to manner address (command_with Trail source (Some stimulus) None top rest mode)) (number_to (most_of manner) count)
offer_with manner mode words = None

abbrev pub offer_by : List (List ℕ) → Option Mode → Manner → Option Offer
offer_by words mode manner = option_and_then (λ m. offer_with manner m words) mode

-- the words `serve MODE SRC STIM ADDR COUNT TOP [NAME=N]..` or `serveall ..`, where ADDR is not empty and COUNT is from 1 to the most
abbrev pub offer_of : List (List ℕ) → Option Offer
offer_of (word ∷ mode ∷ source ∷ stimulus ∷ address ∷ count ∷ top ∷ rest) =
    if is_some_word address then option_and_then (offer_by (word ∷ mode ∷ source ∷ stimulus ∷ address ∷ count ∷ top ∷ rest) (mode_of mode)) (manner_of word) else None
offer_of words = None

abbrev pub offer_address : Offer → List ℕ
offer_address offer = offer.address

abbrev pub address_in : List (List ℕ) → Option (List ℕ)
address_in words = option_map offer_address (offer_of words)

abbrev pub offer_files : Offer → Command
offer_files offer = offer.files

-- a fact of the files and of what is offered, where the files are told and the words offer something
abbrev pub IfOffered : Option Contents → Option Offer → (Contents → Offer → Type 0) → Type 0
IfOffered (Some files) (Some offer) P = P files offer
IfOffered (Some files) None P = ⊤
IfOffered None offer P = ⊤
