-- Lines are read in one way.
use Rattle.std.proofs.Common.{◌≡◌, ℕ, List, [], ◌∷◌, Option, refl, sym, ap, ◌∙◌, subst}
use Rattle.nonce_shard.specs.declared.names.TableName.{TableName}
use Rattle.auth_decide.specs.Credentials.{LinesSay, nonce_in, presented}
use Rattle.auth_decide.specs.Messages.{Names, SaysMessage, scram_params}
use Rattle.auth_decide.specs.declared.scram_message.ScramMessage.{ScramMessage}
use Rattle.auth_decide.specs.declared.credentials.CredentialsField.{CredentialsField}
use Rattle.auth_decide.specs.declared.credentials.CredentialsField.TheVariants.{Absent, Item, Malformed}
use Rattle.auth_decide.specs.declared.credentials.RequestCredentials.{RequestCredentials}
use Rattle.admission.specs.Admission.{ReadsOneWay}
use Rattle.admission.proofs.Lines.{read_item}
use Rattle.admission.proofs.OneMessage.{one_message, one_named}

one_field : (lines : List (List ℕ)) (a b : CredentialsField) → LinesSay lines a → LinesSay lines b → a ≡ b
one_field [] a b one two = one ∙ sym two
one_field (line ∷ next ∷ lines) a b one two = one ∙ sym two
one_field (line ∷ []) Absent b one two = absurd one
one_field (line ∷ []) (Item item) b one two = sym (read_item line item b one.spelled one.single two)
one_field (line ∷ []) Malformed Absent one two = absurd two
one_field (line ∷ []) Malformed (Item item) one two = read_item line item Malformed two.spelled two.single one
one_field (line ∷ []) Malformed Malformed one two = refl

pub reads_one_way : ReadsOneWay
reads_one_way lines a b one two =
    let field : a.field ≡ b.field = one_field lines a.field b.field one.field two.field in
    let F : CredentialsField → Type 0 = λ f. Names (nonce_in (presented f)) a.nonce in
    let nonce : a.nonce ≡ b.nonce = one_named (nonce_in (presented b.field)) a.nonce b.nonce (subst F field one.nonce) two.nonce in
    let S : CredentialsField → Type 0 = λ f. SaysMessage (scram_params f) a.scram in
    let scram : a.scram ≡ b.scram = one_message (scram_params b.field) a.scram b.scram (subst S field one.scram) two.scram in
    ap (λ (f : CredentialsField). let r : RequestCredentials = record { field = f; nonce = a.nonce; scram = a.scram } in r) field
    ∙ ap (λ (n : Option TableName). let r : RequestCredentials = record { field = b.field; nonce = n; scram = a.scram } in r) nonce
    ∙ ap (λ (m : ScramMessage). let r : RequestCredentials = record { field = b.field; nonce = b.nonce; scram = m } in r) scram
