-- Refusals of parts as those of the whole.
use Rattle.conjure_options.specs.declared.options.OptionsNo.{OptionsNo}
use Rattle.ess_translate.specs.declared.refusal.TransNo.{TransNo}
use Rattle.conjure_modelling.specs.declared.refusal.ModelNo.{ModelNo}

-- That of a specification.
abbrev pub of_specification : TransNo → ModelNo
of_specification TransNo.NoMemory = ModelNo.NoMemory
of_specification why = ModelNo.Specification why

-- That of a list.
abbrev pub of_options : OptionsNo → ModelNo
of_options (OptionsNo.BadItem k) = ModelNo.BadRepresentation k
of_options OptionsNo.NoMemory = ModelNo.NoMemory
