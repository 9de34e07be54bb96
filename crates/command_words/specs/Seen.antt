-- An option as contracts see it.
use Rattle.command_words.specs.declared.GivenOption.{GivenOption}
use Rattle.command_words.specs.Options.{Named}

abbrev pub option_seen : GivenOption → Named
option_seen o = record { name = o.name.now; value = o.value.now }
