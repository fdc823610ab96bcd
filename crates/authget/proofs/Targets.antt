-- URLs that words ask for have targets.
use Rattle.std.proofs.Common.{◌≡◌, ◌≤◌, ◌==◌, ◌&&◌, ◌⊎◌, ℕ, Bool, true, false, cond, List, [], ◌∷◌, length, get_or, Option, Some, None, refl, subst, inl, inr, arith, length-drop}
use Rattle.std.specs.Prelude.{All, codes, nat_eq, nat_lt, nat_le}
use Rattle.std.specs.List.{list_all, position_or_len, starts_with}
use Rattle.std.proofs.lemmas.Bool.{and_parts}
use Rattle.std.proofs.lemmas.Bool.Decides.{nat_tests}
use Rattle.std.proofs.lemmas.List.Sums.{AllPass-from_list_all}
use Rattle.authget.specs.Requests.{HasTarget, target_of}
use Rattle.authget.specs.Urls.{authority_of, behind_scheme, is_authority, is_path, is_path_byte, is_url, path_of}
use Rattle.authget.specs.Words.{are_urls, asked_by, asked_plainly, asked_with, is_of, proxy_in, with_options}
use Rattle.authget.specs.declared.plan.Plan.{Plan}

either : (test : Bool) → (test ≡ true) ⊎ (test ≡ false)
either true = inl refl
either false = inr refl

not_empty : (n : ℕ) → nat_lt 0 n ≡ true → 1 ≤ n
not_empty n is = grind (arith, nat_tests)

-- the path of a URL isn't empty
path_there : (authority url : List ℕ) → is_of authority url ≡ true → 1 ≤ length (path_of url)
path_there authority url is =
    let of = (and_parts (is_url url) _ is).0 in
    let path = (and_parts (starts_with nat_eq url (codes "http://") && is_authority (authority_of url)) (is_path (path_of url)) of).1 in
    not_empty (length (path_of url)) (and_parts (nat_lt 0 (length (path_of url))) (list_all is_path_byte (path_of url)) path).0

target_there : (proxy : Option (List ℕ)) (authority url : List ℕ) → is_of authority url ≡ true → 1 ≤ length (target_of proxy url)
target_there None authority url is = path_there authority url is
target_there (Some proxy) authority url is =
    let there = path_there authority url is in
    let n = position_or_len (λ b. b == 47) (behind_scheme url) in
    omega (arith, there, length-drop n (behind_scheme url), length-drop 7 url)

made_is : (test : Bool) (made plan : Plan) → test ≡ true → cond test (Some made) None ≡ Some plan → made ≡ plan
made_is true made plan well is = cc
made_is false made plan well is = absurd (cc)

never_made : (test : Bool) (made plan : Plan) → test ≡ false → cond test (Some made) None ≡ Some plan → ⊥
never_made true made plan ill is = cc
never_made false made plan ill is = cc

asked_targets : (proxy : Option (List ℕ)) (name authority : List ℕ) (urls : List (List ℕ)) (plan : Plan) → asked_with proxy name authority urls ≡ Some plan → All (HasTarget plan) plan.urls
asked_targets proxy name authority urls plan is =
    let test = nat_lt 0 (length name) && are_urls authority urls in
    let made : Plan = record { proxy = proxy; name = name; authority = authority; urls = urls } in
    elim (either test) [
      | inl well ↦
          let parts = and_parts (nat_lt 0 (length name)) (are_urls authority urls) well in
          let each = AllPass-from_list_all (is_of authority) urls (and_parts (nat_lt 0 (length urls) && nat_le (length urls) 16) (list_all (is_of authority) urls) parts.1).1 in
          let same : made ≡ plan = made_is test made plan well is in
          subst (λ (p : Plan). All (HasTarget p) p.urls) same (λ k d below. target_there proxy authority (get_or urls k d) (each k d below))
      | inr ill ↦ absurd (never_made test made plan ill is)
    ]

plain_targets : (proxy : Option (List ℕ)) (words : List (List ℕ)) (plan : Plan) → asked_plainly proxy words ≡ Some plan → All (HasTarget plan) plan.urls
plain_targets proxy [] plan is = absurd (cc)
plain_targets proxy (name ∷ []) plan is = absurd (cc)
plain_targets proxy (name ∷ url ∷ urls) plan is = asked_targets proxy name (authority_of url) (url ∷ urls) plan is

by_targets : (proxy : Option (List ℕ)) (words : List (List ℕ)) (plan : Plan) → asked_by proxy words ≡ Some plan → All (HasTarget plan) plan.urls
by_targets None words plan is = absurd (cc)
by_targets (Some proxy) words plan is = plain_targets (Some proxy) words plan is

pub targets : (options words : List (List ℕ)) (plan : Plan) → with_options options words ≡ Some plan → All (HasTarget plan) plan.urls
targets [] words plan is = plain_targets None words plan is
targets (option ∷ []) words plan is = by_targets (proxy_in option) words plan is
targets (option ∷ other ∷ options) words plan is = absurd (cc)
