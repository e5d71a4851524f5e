-- What a token does by the attribute that it is.
use Rattle.std.proofs.Common.{◌≡◌, refl, ap, ◌∙◌, List, [], ◌∷◌, Option, Some, None, true}
use Rattle.std.specs.Prelude.{IfOk}
use Rattle.std.specs.declared.result.Result.{Result}
use Rattle.std.specs.declared.result.Result.TheVariants.{Ok, Err}
use Rattle.ess_semantics.specs.declared.words.Key.{Key}
use Rattle.ess_semantics.specs.Trees.{no_exs, no_doms}
use Rattle.ess_grammar.specs.Words.{Token, number, name, prime_word, word, operator, function, symbol}
use Rattle.ess_parse_laws.specs.Frames.{Frame, attributes_frame, function_from_frame, function_owner, tuple_domains_frame}
use Rattle.ess_parse_laws.specs.Modes as machine
use Rattle.ess_parse_laws.specs.Modes.{at_state, attribute_read}
use Rattle.ess_parse_laws.specs.Domains.{step_domain_wanted}
use Rattle.ess_parse_laws.specs.AttributeSteps.{attribute_of, step_function_bracket_read, step_attribute_wanted}
use Rattle.ess_parse_frames.specs.Views.{Steps}
use Rattle.ess_parse_frames.specs.declared.states.State.{State}
use Rattle.ess_parse_domains.specs.Attributes.{key_named, attribute_in}

attribute-same : (t : Token) → attribute_of t ≡ attribute_in t
unfolding key_named
attribute-same (number n) = refl
attribute-same (name a) = refl
attribute-same prime_word = refl
attribute-same (word w) = refl
attribute-same (operator o) = refl
attribute-same (function f) = refl
attribute-same (symbol s) = refl

-- behind `function (`
unfoldable bracket : Option Key → Token → List Frame → Option machine.State
bracket o t fs = elim o [
  | Some k ↦ at_state (attribute_read k) (attributes_frame function_owner [] no_exs ∷ fs)
  | None ↦ step_domain_wanted t (tuple_domains_frame true no_doms ∷ function_from_frame [] no_exs ∷ fs)
]

bracket-by : (t : Token) (fs : List Frame) (o : Option Key) → attribute_in t ≡ o → step_function_bracket_read t fs ≡ bracket o t fs
unfolding bracket
bracket-by t fs o h = ap (λ p. bracket p t fs) (attribute-same t ∙ h)

pub bracket-key : (t : Token) (k : Key) (fs : List Frame) → attribute_in t ≡ Some k → step_function_bracket_read t fs ≡ at_state (attribute_read k) (attributes_frame function_owner [] no_exs ∷ fs)
unfolding bracket
bracket-key t k fs h = bracket-by t fs (Some k) h

pub bracket-other : (t : Token) (fs : List Frame) → attribute_in t ≡ None → step_function_bracket_read t fs ≡ step_domain_wanted t (tuple_domains_frame true no_doms ∷ function_from_frame [] no_exs ∷ fs)
unfolding bracket
bracket-other t fs h = bracket-by t fs None h

-- where an attribute is wanted
unfoldable wanted : Option Key → List Frame → Option machine.State
wanted o fs = elim o [ Some k ↦ at_state (attribute_read k) fs | None ↦ None ]

wanted-by : (t : Token) (fs : List Frame) (o : Option Key) → attribute_in t ≡ o → step_attribute_wanted t fs ≡ wanted o fs
unfolding wanted
wanted-by t fs o h = ap (λ p. wanted p fs) (attribute-same t ∙ h)

pub wanted-key : (t : Token) (k : Key) (fs : List Frame) → attribute_in t ≡ Some k → step_attribute_wanted t fs ≡ at_state (attribute_read k) fs
unfolding wanted
wanted-key t k fs h = wanted-by t fs (Some k) h

pub wanted-other : (t : Token) (fs : List Frame) → attribute_in t ≡ None → step_attribute_wanted t fs ≡ None
unfolding wanted
wanted-other t fs h = wanted-by t fs None h

-- a step to a state that is another's too
pub carried : {E : Type 0} (x : Result (Option State) E) (r s : Option machine.State) → s ≡ r → IfOk x (Steps r) → IfOk x (Steps s)
carried (Ok p) r s e h = e ∙ h
carried (Err n) r s e h = tt

-- a step of each token of a kind
pub carried_at : {B E : Type 0} (x : Result (Option State) E) (r : B → Option machine.State) (s : Option machine.State) (b : B) →
    s ≡ r b → IfOk x (λ p. (c : B) → Steps (r c) p) → IfOk x (Steps s)
carried_at (Ok p) r s b e h = e ∙ h b
carried_at (Err n) r s b e h = tt

-- no step, where there is none
pub stopped : {E : Type 0} (x : Result (Option State) E) (s : Option machine.State) → s ≡ None → x ≡ Ok None → IfOk x (Steps s)
stopped x s none e = rw (e) none
