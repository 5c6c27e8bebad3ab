-- But for the setting of breakpoints, which is told apart, a command leads to what the table of commands says.
use Rattle.std.proofs.Common.{◌≡◌, ℕ, List, refl}
use Rattle.world_core.specs.World.{World}
use Rattle.machine_core.specs.Reading.{Reader}
use Rattle.dap_text.specs.declared.message.EditorCmd.{EditorCmd}
use Rattle.dap_text.specs.declared.message.EditorCmd.TheVariants as asks
use Rattle.dap_text.specs.declared.message.LineAsked.{LineAsked}
use Rattle.dap_link.specs.Conversation.{Conversation, keeping, led_by, reaction_to}

module _ (read : Reader) (w : World) (names : List (List ℕ)) (c : Conversation) where
  pub other_reaction : (asked : EditorCmd) → ((path : List ℕ) (lines : List LineAsked) → asked ≡ asks.SetBreakpoints path lines → ⊥)
      → keeping c.set (led_by read w names c.machine asked) ≡ reaction_to read w names c asked
  other_reaction (asks.SetBreakpoints path lines) other = absurd (other path lines refl)
  other_reaction asks.Initialize other = refl
  other_reaction asks.Launch other = refl
  other_reaction asks.ConfigurationDone other = refl
  other_reaction asks.Continue other = refl
  other_reaction asks.ReverseContinue other = refl
  other_reaction asks.Step other = refl
  other_reaction asks.StepBack other = refl
  other_reaction asks.Pause other = refl
  other_reaction asks.Threads other = refl
  other_reaction (asks.StackTrace thread) other = refl
  other_reaction (asks.Scopes frame) other = refl
  other_reaction (asks.Variables n) other = refl
  other_reaction (asks.Evaluate expression frame) other = refl
  other_reaction asks.Disconnect other = refl
  other_reaction asks.BadShape other = refl
  other_reaction asks.UnknownCmd other = refl
