-- Parts of partitions, by the operands.
use Rattle.std.proofs.Common.{◌≡◌, refl, Bool, option_map}
use Rattle.ess_semantics.specs.declared.words.Fun.{Fun}
use Rattle.ess_semantics.specs.Values.{Text}
use Rattle.ess_semantics.specs.Trees.{word, Ex, Exs, node_ex, no_exs, more_exs}
use Rattle.ess_rules_forms.specs.Forms.{both_operands}
use Rattle.ess_kind_rules_laws.specs.TermLookups.{party_lookup}
use Rattle.ess_rules_offers.specs.Parties.{a_party, part_with}

-- By the operands.
pub party_by_operands : (x : Text) (e : Ex) → party_lookup x e ≡ option_map (λ p. part_with x p.0 p.1) (a_party e)
party_by_operands x (node_ex b (word Fun.Party) (more_exs a (more_exs p no_exs))) = refl
party_by_operands x (node_ex b (word Fun.Party) (more_exs a (more_exs p (more_exs u us)))) = refl
party_by_operands x (node_ex b (word Fun.Party) (more_exs a no_exs)) = refl
party_by_operands x (node_ex b (word Fun.Party) no_exs) = refl
party_by_operands x e = refl

-- Of two operands.
pub party_of_both : (b : Bool) (es : Exs) → both_operands es ≡ a_party (node_ex b (word Fun.Party) es)
party_of_both b (more_exs a (more_exs p no_exs)) = refl
party_of_both b no_exs = refl
party_of_both b (more_exs a no_exs) = refl
party_of_both b (more_exs a (more_exs p (more_exs u us))) = refl
