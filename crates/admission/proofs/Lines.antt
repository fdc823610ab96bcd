-- What the one line of credentials says.
use Rattle.std.proofs.Common.{◌≡◌, ℕ, true, false, codes, map, List, [], ◌∷◌, Some, Ok, All, refl, sym, ap, ◌∙◌, subst}
use Rattle.std.proofs.lemmas.List.Elements.{All-nil, All-cons}
use Rattle.auth_grammar.specs.declared.error.GrammarError.{GrammarError}
use Rattle.auth_grammar.specs.declared.error.GrammarError.TheVariants.{NotGrammar, Twice, OutOfMemory}
use Rattle.auth_grammar.specs.declared.grammar.Grammar.TheVariants as Of
use Rattle.auth_grammar.specs.declared.groups.Group.{Group}
use Rattle.auth_grammar.specs.declared.groups.Group.TheVariants.{WithParams, WithToken68}
use Rattle.auth_grammar.specs.declared.groups.Grouped.{Grouped}
use Rattle.auth_grammar.specs.declared.groups.Placed.{Placed}
use Rattle.auth_grammar.specs.declared.items.Item.{Item}
use Rattle.auth_grammar.specs.Answers.{Refuses}
use Rattle.auth_grammar.specs.Items.{Spells, SpellsCredentials, item_of, unplaced}
use Rattle.auth_grammar.specs.Names.{has_repeat, params_of, same_name}
use Rattle.auth_grammar.specs.Repeats.{AreSingle, lists_in, params_in}
use Rattle.auth_grammar.proofs.RepeatLaws.{second_is}
use Rattle.cred_store.specs.LookUps.{secret_of}
use Rattle.digest_fields.specs.Credentials.{credentials_of}
use Rattle.spaces_map.specs.declared.space.Space.{Space}
use Rattle.auth_decide.specs.Candidates.{is_offered, user_of}
use Rattle.auth_decide.specs.Credentials.{IsFault, LinesSay, SpellsOne, Reads, credentials_lines}
use Rattle.auth_decide.specs.Paths.{correspond}
use Rattle.auth_decide.specs.Stages.{Question, protection_space}
use Rattle.auth_decide.specs.declared.candidate.Candidate.{Candidate}
use Rattle.auth_decide.specs.declared.credentials.CredentialsField.{CredentialsField}
use Rattle.auth_decide.specs.declared.credentials.CredentialsField.TheVariants as field
use Rattle.admission.specs.Admission.{IsWellFormed}

-- the same of what was read
pub record IsRead (q : Question) (space : Space) (c : Candidate) : Type 0 where
  pub item : Item
  pub spelled : q.credentials.field ≡ field.Item item
  pub digest : same_name item.scheme (codes "Digest") ≡ true
  pub fields : credentials_of (params_of item.rest) ≡ Ok c.credentials
  pub in_space : protection_space q.role q.request q.site ≡ Some space
  pub uri : correspond c.credentials.uri q.request.target ≡ true
  pub offered : is_offered space c.credentials ≡ true
  pub user : user_of q.site.store c.credentials c.credentials.user ≡ Some c.user
  pub secret : secret_of c.user c.credentials.realm c.credentials.kind.alg q.site.store ≡ Some c.secret

-- ---- a line that spells an item isn't refused

single_group : (g : Group) → has_repeat (params_of (item_of g).rest) ≡ false → has_repeat (unplaced (params_in g)) ≡ false
single_group (WithParams scheme []) e = refl
single_group (WithParams scheme (p ∷ params)) e = e
single_group (WithToken68 scheme token68) e = refl

same_item : (g : Group) (groups : List Group) (item : Item) → groups ≡ g ∷ [] → map item_of groups ≡ item ∷ [] → item_of g ≡ item
same_item g groups item one whole =
    let both : item_of g ∷ [] ≡ item ∷ [] = sym (ap (map item_of) one) ∙ whole in
    cc

single_lists : (x : Grouped) (line : List ℕ) (item : Item) → Spells Of.Credentials line x → map item_of x.groups ≡ item ∷ [] → has_repeat (params_of item.rest) ≡ false → AreSingle (lists_in x)
single_lists x line item spells whole single =
    let i = spells.3 in
    let P : List Placed → Type 0 = λ params. has_repeat (unplaced params) ≡ false in
    let its : item_of i.1 ≡ item = same_item i.1 x.groups item i.2 whole in
    let one : has_repeat (unplaced (params_in i.1)) ≡ false = single_group i.1 (ap (λ (y : Item). has_repeat (params_of y.rest)) its ∙ single) in
    let first : P x.params = ap (λ (params : List Placed). has_repeat (unplaced params)) i.0 in
    let rest : All P (map params_in x.groups) = subst (λ (groups : List Group). All P (map params_in groups)) (sym i.2) (All-cons P (params_in i.1) [] one (All-nil P)) in
    All-cons P x.params (map params_in x.groups) first rest

pub not_refused : (line : List ℕ) (item : Item) (error : GrammarError) → SpellsCredentials line item → has_repeat (params_of item.rest) ≡ false → IsFault error → Refuses Of.Credentials line error → ⊥
not_refused line item (NotGrammar at) spells single fault refuses = refuses.none spells.0 spells.1
not_refused line item (Twice at name) spells single fault refuses =
    let same : spells.0 ≡ refuses.0 = refuses.2.1 spells.0 spells.1 in
    second_is (lists_in refuses.0) refuses.1 (subst (λ (x : Grouped). AreSingle (lists_in x)) same (single_lists spells.0 line item spells.1 spells.2 single)) refuses.3
not_refused line item OutOfMemory spells single fault refuses = fault

pub read_item : (line : List ℕ) (item : Item) (says : CredentialsField) → SpellsCredentials line item → has_repeat (params_of item.rest) ≡ false → LinesSay (line ∷ []) says → says ≡ field.Item item
read_item line item field.Absent spells single says = absurd says
read_item line item (field.Item other) spells single says = ap field.Item (sym (says.only item spells))
read_item line item field.Malformed spells single says = absurd (not_refused line item says.0 spells single says.1 says.2)

-- one line was read
pub lines_one : (lines : List (List ℕ)) (item : Item) → LinesSay lines (field.Item item) → (line : List ℕ) × (lines ≡ line ∷ []) × SpellsOne line item
lines_one [] item says = absurd (let no : field.Item item ≡ field.Absent = says in cc)
lines_one (line ∷ []) item says = (line, refl, says)
lines_one (line ∷ next ∷ lines) item says = absurd (let no : field.Item item ≡ field.Malformed = says in cc)

pub to_read : (q : Question) (space : Space) (c : Candidate) → IsWellFormed q space c → Reads (credentials_lines q.role q.request) q.credentials → IsRead q space c
to_read q space c w reads = record {
  item = w.item;
  spelled = read_item w.line w.item q.credentials.field w.spelled w.single (subst (λ (lines : List (List ℕ)). LinesSay lines q.credentials.field) w.lines reads.field);
  digest = w.digest;
  fields = w.fields;
  in_space = w.in_space;
  uri = w.uri;
  offered = w.offered;
  user = w.user;
  secret = w.secret;
}

pub from_read : (q : Question) (space : Space) (c : Candidate) → IsRead q space c → Reads (credentials_lines q.role q.request) q.credentials → IsWellFormed q space c
from_read q space c r reads =
    let says = subst (λ (x : CredentialsField). LinesSay (credentials_lines q.role q.request) x) r.spelled reads.field in
    let one = lines_one (credentials_lines q.role q.request) r.item says in
    record {
      line = one.0;
      item = r.item;
      lines = one.1;
      spelled = one.2.spelled;
      single = one.2.single;
      digest = r.digest;
      fields = r.fields;
      in_space = r.in_space;
      uri = r.uri;
      offered = r.offered;
      user = r.user;
      secret = r.secret;
    }
