-- What the words of the command `node` ask for.
use Rattle.std.specs.Prelude.{ℕ, Bool, ◌&&◌, nat_le, List, [], ◌∷◌, codes, if◌then◌else◌, Option, None, Some}
use Rattle.std.specs.Option.{option_map, option_and_then}
use Rattle.std.specs.Str.{bytes_eq}
use Rattle.block_record.specs.Number.{number_of}
use Rattle.command_words.specs.Options.{Named, all_options}
use Rattle.node_command.specs.declared.options.NodeOptions.{NodeOptions}
use Rattle.node_command.specs.declared.options.Found.{Found}

-- a number that is given once
abbrev pub once : Option ℕ → Option ℕ → Option ℕ
once None given = given
once (Some held) given = None

-- what was found with one more option: none where it is of another name, is given twice or has no number
abbrev pub found_with : Found → Named → Option Found
found_with f o =
    if bytes_eq o.name (codes "key") then option_map (λ n. record f { key = Some n }) (once f.key (number_of o.value))
    else if bytes_eq o.name (codes "blocks") then option_map (λ n. record f { blocks = Some n }) (once f.blocks (number_of o.value))
    else if bytes_eq o.name (codes "forks") then option_map (λ n. record f { forks = Some n }) (once f.forks (number_of o.value))
    else None

-- nothing was found
abbrev pub none_found : Found
none_found = record { key = None; blocks = None; forks = None }

-- whether there may be so many blocks, and a fork at about one of so many
abbrev pub fits : ℕ → ℕ → Bool
fits blocks forks = nat_le 1 blocks && nat_le blocks 1000000 && nat_le forks 1000000

-- the options, where each was found and fits
abbrev pub options_of : Option ℕ → Option ℕ → Option ℕ → Option NodeOptions
options_of None blocks forks = None
options_of (Some key) None forks = None
options_of (Some key) (Some blocks) None = None
options_of (Some key) (Some blocks) (Some forks) = if fits blocks forks then Some (record { key = key; blocks = blocks; forks = forks }) else None

-- the options that some words give, in any order
abbrev pub node_options : List (List ℕ) → Option NodeOptions
node_options words = option_and_then (λ f. options_of f.key f.blocks f.forks) (all_options found_with none_found words)

-- the same, where the first word is `node`
abbrev pub names_node : List (List ℕ) → Option NodeOptions
names_node [] = None
names_node (command ∷ words) = if bytes_eq command (codes "node") then node_options words else None
