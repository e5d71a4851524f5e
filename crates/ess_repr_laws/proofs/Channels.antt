-- Two views are equal exactly where they stand for one value.
use Rattle.std.proofs.Common.{◌≡◌, refl, sym, ap, ◌∙◌, Bool, true, false, List, [], ◌∷◌, Option, Some, None}
use Rattle.ess_semantics.specs.declared.words.Op2.{Op2}
use Rattle.ess_semantics.specs.Values.{Text, Value, truth}
use Rattle.ess_semantics.specs.Order.{same}
use Rattle.ess_semantics.specs.Trees.{binary, Repr, Dom}
use Rattle.ess_semantics.specs.Domains.{Domain}
use Rattle.ess_semantics.specs.Tables.{Tables}
use Rattle.ess_semantics.specs.Representations.{value_of_tables}
use Rattle.ess_semantics.specs.Operators.{false_where_undefined, value_of_node}
use Rattle.ess_semantics.specs.Meaning.{Env, meaning, domain_of, is_bool_dom, seen_in, tables_in}
use Rattle.ess_semantics.proofs.Orders.{same-itself, same-equal}
use Rattle.ess_repr_laws.specs.Channel.{whole_view, channel, Seen}
use Rattle.ess_repr_laws.specs.Laws.{ChannelsSaySame}

-- A view means what its tables stand for.
pub whole-means : (env : Env) (d : Dom) (e : Domain) (r : Repr) (ns : List Text) (ts : Tables) → is_bool_dom d ≡ false → Seen env d e ns
    ts →
    meaning (whole_view r d ns) env ≡ value_of_tables r e ts []
whole-means env d e r ns ts nb s =
    ap (λ b. false_where_undefined b (seen_in r (domain_of d env) (tables_in env.cells ns) (Some []))) nb
    ∙ ap (λ o. seen_in r o (tables_in env.cells ns) (Some [])) s.denotes ∙ ap (λ o. seen_in r (Some e) o (Some [])) s.found

-- Whether two options hold one value.
abbrev same_there : Option Value → Option Value → Bool
same_there (Some v) (Some w) = same v w
same_there _ p = false

equal-means : (o p : Option Value) → false_where_undefined true (value_of_node (binary Op2.Eq) (o ∷ p ∷ [])) ≡ Some (truth (same_there o p))
equal-means (Some v) (Some w) = refl
equal-means (Some v) None = refl
equal-means None (Some w) = refl
equal-means None None = refl

one-value : (o p : Option Value) → same_there o p ≡ true → (v : Value) × (o ≡ Some v) × (p ≡ Some v)
one-value (Some v) (Some w) h = (v, refl, ap Some (sym (same-equal v w h)))
one-value (Some v) None h = cc
one-value None (Some w) h = cc
one-value None None h = cc

-- So channels say.
pub channels-same : ChannelsSaySame
channels-same env d e r s ns ms ts us nb f g = record {
  only_same = λ h. let x = one-value R S (truth-is (same_there R S) (sym means ∙ h)) in (x.0, record { first = x.1; second = x.2 });
  same_is = λ v b. means ∙ ap (λ o. Some (truth (same_there o S))) b.first ∙ ap (λ o. Some (truth (same_there (Some v) o))) b.second
      ∙ ap (λ b. Some (truth b)) (same-itself v);
  of_values = λ v w a b. means ∙ ap (λ o. Some (truth (same_there o S))) a ∙ ap (λ o. Some (truth (same_there (Some v) o))) b;
  settled = (same_there R S, means);
}
  where
    R : Option Value
    R = value_of_tables r e ts []

    S : Option Value
    S = value_of_tables s e us []

    means : meaning (channel d r ns s ms) env ≡ Some (truth (same_there R S))
    means =
        ap (λ o. false_where_undefined true (value_of_node (binary Op2.Eq) (o ∷ meaning (whole_view s d ms) env ∷ [])))
        (whole-means env d e r ns ts nb f)
        ∙ ap (λ o. false_where_undefined true (value_of_node (binary Op2.Eq) (R ∷ o ∷ []))) (whole-means env d e s ms us nb g)
        ∙ equal-means R S

    truth-is : (b : Bool) → Some (truth b) ≡ Some (truth true) → b ≡ true
    truth-is true h = refl
    truth-is false h = cc
