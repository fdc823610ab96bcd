-- What holds in the world, whatever happens there.
use Rattle.std.specs.Prelude.{◌≡◌, ◌≢◌, ◌↔◌, ℕ, ◌+◌, ◌<◌, Some, List, [], ◌∷◌, ◌++◌, ◌^◌, slice_get, All, codes}
use Rattle.auth_grammar.specs.declared.items.Item.{Item}
use Rattle.auth_grammar.specs.Names.{params_of}
use Rattle.digest_fields.specs.Field.{given}
use Rattle.digest_fields.specs.Nc.{nc_text}
use Rattle.digest_fields.specs.declared.field.FieldName.TheVariants as field
use Rattle.count_window.specs.Window.{high}
use Rattle.count_window.specs.declared.window.TheConstants.{WIDTH}
use Rattle.nonce_shard.specs.Names.{IsName, name_text}
use Rattle.nonce_shard.specs.Sizes.{single_sizes}
use Rattle.nonce_shard.specs.declared.names.TableName.{TableName}
use Rattle.auth_decide.specs.declared.verdict.Ask.{Ask}
use Rattle.auth_decide.specs.declared.verdict.Ask.TheVariants.{Draw, Table, Verdict}
use Rattle.admission.specs.Admission.{IsLiveBehind}
use Rattle.admission.specs.Outcomes.{Admits, counts_behind}
use Rattle.drill.specs.declared.event.DrillEvent.TheVariants.{Deliver}
use Rattle.drill.specs.Deciding.{decided, question}
use Rattle.drill.specs.Requests.{request_with}
use Rattle.drill.specs.Site.{space}
use Rattle.drill.specs.World.{AreSound, Happening, World, run, start}

-- what is asked admits the user
abbrev pub AdmitsUser : Ask → Type 0
AdmitsUser (Verdict verdict) = Admits (codes "u") verdict
AdmitsUser Draw = ⊥
AdmitsUser (Table shard call) = ⊥

-- The request that was made at this place, from 0, comes to the server here and is admitted.
pub record AdmitsHere (w : World) (h : Happening) (k : ℕ) : Type 0 where
  pub event : h.event ≡ Deliver k
  pub item : Item
  pub made : slice_get w.scene.made k ≡ Some item
  pub admitted : AdmitsUser (decided (question w.scene.clock (request_with item) h.credentials) h.words w.calls)

-- Whatever happened before and whatever happens between, a request that was admitted isn't admitted again.
abbrev pub AdmitsEachOnce : Type 0
AdmitsEachOnce = (before between : List Happening) (first second : Happening) (k : ℕ)
    → AreSound (before ++ first ∷ between ++ second ∷ []) start
    → AdmitsHere (run before start) first k → AdmitsHere (run (before ++ first ∷ between) start) second k → ⊥

-- The nonce of a made request is live here, and its count in the window below the greatest that was admitted of it.
pub record MayCome (w : World) (h : Happening) (item : Item) : Type 0 where
  pub nonce : TableName
  pub form : IsName nonce
  pub shard : nonce.shard < 1
  pub count : ℕ
  pub fits : count < 2 ^ 32
  pub its_nonce : given field.Nonce (params_of item.rest) ≡ Some (name_text nonce)
  pub its_count : given field.Nc (params_of item.rest) ≡ Some (nc_text count)
  pub live : IsLiveBehind single_sizes (question w.scene.clock (request_with item) h.credentials) space nonce w.calls
  pub in_window : high (counts_behind single_sizes nonce w.calls) < count + WIDTH

-- Whatever was lost, repeated or reordered before, a made request is admitted at its first delivery exactly where its nonce is
-- live and its count in the window.
abbrev pub AdmitsFirst : Type 0
AdmitsFirst = (before : List Happening) (h : Happening) (k : ℕ) (item : Item) → AreSound (before ++ h ∷ []) start
    → h.event ≡ Deliver k → slice_get (run before start).scene.made k ≡ Some item
    → All (λ (earlier : Happening). earlier.event ≢ Deliver k) before
    → AdmitsHere (run before start) h k ↔ MayCome (run before start) h item
