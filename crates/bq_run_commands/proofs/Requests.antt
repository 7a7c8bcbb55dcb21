-- Items from their lines and what comes after.
use Rattle.std.proofs.Common.{◌≡◌, ℕ, List, [], ◌∷◌, Option, None, Some, subst}
use Rattle.bq_run.specs.Bundle.{lines}
use Rattle.bq_run_commands.specs.declared.commands.Command.{Command}
use Rattle.bq_run_commands.specs.declared.commands.Command.TheVariants as command
use Rattle.bq_run_commands.specs.declared.items.Request.{Request}
use Rattle.bq_run_commands.specs.Commands.{command_of}
use Rattle.bq_run_commands.specs.Items.{IsItem, IsRequest}
use Rattle.bq_run_commands.specs.Reading.{Known, TakesText}

-- nothing is read beyond the line
pub nothing_read : (now : Option (List ℕ)) (command : Command) (request : Request) → ((text : List ℕ) → IsRequest command text text request) → Known (λ text rest. IsRequest command text rest request) now now
nothing_read None command request is = tt
nothing_read (Some text) command request is = is text

pub item_read : (limit : ℕ) (before now then : Option (List ℕ)) (line : List ℕ) (command : Command) (request : Request) → TakesText before now line → command ≡ command_of limit line
    → Known (λ text rest. IsRequest command text rest request) now then → Known (λ text rest. IsItem limit text rest line request) before then
item_read limit None now then line command request takes is asks = tt
item_read limit (Some before) None then line command request takes is asks = absurd takes
item_read limit (Some before) (Some now) None line command request takes is asks = absurd asks
item_read limit (Some before) (Some now) (Some then) line command request takes is asks = record {
  whole = takes.0;
  after = now;
  first = takes.1;
  is = takes.2;
  asks = subst (λ (c : Command). IsRequest c now then request) is asks;
}
