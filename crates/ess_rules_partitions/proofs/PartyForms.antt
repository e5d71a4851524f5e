-- What the rules of parties, numbers of parts and participants are, by the operands and by the parts of the view.
use Rattle.std.proofs.Common.{◌≡◌, refl, true, false, [], ◌∷◌, option_map}
use Rattle.ess_semantics.specs.declared.words.Op1.{Op1}
use Rattle.ess_semantics.specs.declared.words.Op2.{Op2}
use Rattle.ess_semantics.specs.declared.words.Fun.{Fun}
use Rattle.ess_semantics.specs.declared.words.ReprKind.{ReprKind}
use Rattle.ess_semantics.specs.Lists.{and_then}
use Rattle.ess_semantics.specs.Values.{Text}
use Rattle.ess_semantics.specs.Trees.{repr, no_reprs, unary, binary, word, Ex, node_ex, ex1, ex2, fun1, seen_ex}
use Rattle.ess_semantics.specs.Trees.{no_exs, more_exs, partition_dom}
use Rattle.ess_rules_forms.specs.Forms.{truth_pair, of_pair}
use Rattle.ess_views_laws.specs.PartitionViews.{partition_party, number_of_parts, is_participant, is_one_of}
use Rattle.ess_rules_partitions.specs.Asked.{a_party, party_of, a_size, the_parts, the_participants}
use Rattle.ess_rules_partitions.specs.NumberedViews.{numbered, members_of, party_at, count_at}

-- ---- parties

-- By the operands.
pub party_by_operands : (n e : Ex) → partition_party n e ≡ and_then (a_party e) (λ p. partition_party n (party_of p.0 p.1))
party_by_operands n (node_ex false (word Fun.Party) (more_exs a (more_exs v no_exs))) = refl
party_by_operands n (node_ex false (word Fun.Party) (more_exs a
    (more_exs (seen_ex (repr ReprKind.PartitionOccurrence no_reprs) (partition_dom ms es d) (m ∷ w ∷ []) js) (more_exs u us)))) = refl
party_by_operands n e = refl

-- By the parts of the view.
pub party_by_parts : (n a v : Ex) → partition_party n (party_of a v) ≡ option_map (party_at n a) (numbered v)
party_by_parts n a (seen_ex (repr ReprKind.PartitionOccurrence no_reprs) (partition_dom ms es d) (m ∷ w ∷ []) js) = refl
party_by_parts n a v = refl

-- ---- numbers of parts

-- By the set.
pub count_by_size : (e : Ex) → number_of_parts e ≡ and_then (a_size e) (λ s. number_of_parts (ex1 false Op1.Bar s))
count_by_size (ex1 false Op1.Bar s) = refl
count_by_size (node_ex false (unary Op1.Bar) (more_exs
    (fun1 false Fun.Parts (seen_ex (repr ReprKind.PartitionOccurrence no_reprs) (partition_dom ms es d) (m ∷ w ∷ []) js))
    (more_exs u us))) = refl
count_by_size e = refl

-- By the parts of the view.
pub count_by_parts : (s : Ex)
    → number_of_parts (ex1 false Op1.Bar s) ≡ and_then (the_parts s) (λ v. option_map count_at (numbered v))
count_by_parts (fun1 false Fun.Parts (seen_ex (repr ReprKind.PartitionOccurrence no_reprs) (partition_dom ms es d) (m ∷ w ∷ []) js)) = refl
count_by_parts (node_ex false (word Fun.Parts) (more_exs
    (seen_ex (repr ReprKind.PartitionOccurrence no_reprs) (partition_dom ms es d) (m ∷ w ∷ []) js) (more_exs u us))) = refl
count_by_parts (fun1 false Fun.Parts v) = refl
count_by_parts s = refl

-- ---- participants

-- By the operands.
pub participant_by_pair : (x : Text) (e : Ex) → is_participant x e ≡ of_pair (is_participant x) (truth_pair e)
participant_by_pair x (ex2 true Op2.Member a s) = refl
participant_by_pair x (node_ex true (binary Op2.Member) (more_exs a (more_exs
    (fun1 false Fun.Participants (seen_ex (repr ReprKind.PartitionOccurrence no_reprs) (partition_dom ms es d) ns js))
    (more_exs u us)))) = refl
participant_by_pair x (ex2 true o a s) = refl
participant_by_pair x e = refl

-- By the domain of the members.
pub participant_by_members : (x : Text) (a s : Ex)
    → is_participant x (ex2 true Op2.Member a s) ≡ and_then (the_participants s) (λ v. option_map (λ d. is_one_of x d a) (members_of v))
participant_by_members x a
    (fun1 false Fun.Participants (seen_ex (repr ReprKind.PartitionOccurrence no_reprs) (partition_dom ms es d) ns js)) = refl
participant_by_members x a (node_ex false (word Fun.Participants) (more_exs
    (seen_ex (repr ReprKind.PartitionOccurrence no_reprs) (partition_dom ms es d) ns js) (more_exs u us))) = refl
participant_by_members x a (fun1 false Fun.Participants v) = refl
participant_by_members x a s = refl
