-- The attributes that sizes ask for, one after the other.
use Rattle.std.proofs.Common.{◌≡◌, ap, List, Option, Some, None}
use Rattle.ess_semantics.specs.declared.words.Key.{Key}
use Rattle.ess_semantics.specs.Lists.{or_else, or_default}
use Rattle.ess_semantics.specs.Trees.{Mark, Ex, Exs}
use Rattle.ess_repr_declare_laws.specs.SizeTerms.{zero_ex, number_of, greatest_size_of, occurrences_ex}

pub times_there : (ms : List Mark) (es : Exs) (e : Ex) → number_of Key.MaxOccur ms es ≡ Some e → occurrences_ex ms es ≡ e
times_there ms es e h = ap (λ o. or_default (or_else o (greatest_size_of ms es)) zero_ex) h

pub times_other : (ms : List Mark) (es : Exs) → number_of Key.MaxOccur ms es ≡ None → occurrences_ex ms es ≡ or_default (greatest_size_of ms es) zero_ex
times_other ms es h = ap (λ o. or_default (or_else o (greatest_size_of ms es)) zero_ex) h

pub default_there : (o : Option Ex) (e f : Ex) → o ≡ Some e → or_default o f ≡ e
default_there o e f h = ap (λ p. or_default p f) h

pub default_other : (o : Option Ex) (f : Ex) → o ≡ None → or_default o f ≡ f
default_other o f h = ap (λ p. or_default p f) h
