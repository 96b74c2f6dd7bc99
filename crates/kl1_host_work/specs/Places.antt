-- The places of a lobby, each with a share for a connection.
use Rattle.std.specs.Prelude.{◌≡◌, ◌+◌, ◌^◌, ℕ, Bool, true, false, cond, not, ◌&&◌, ◌||◌, nat_le, ◌==◌, Option, Some, None, is_none}
use Rattle.std.specs.declared.net.socket_addr.SocketAddr.{SocketAddr}
use Rattle.kl1_host_work.specs.declared.place.Visitor.{Visitor}
use Rattle.kl1_host_work.specs.declared.place.Place.{Place}

-- whether who has a place came from this network, and wasn't told to end
abbrev pub is_from : ℕ → Option Visitor → Bool
is_from network None = false
is_from network (Some v) = (v.network == network) && not v.is_leaving

-- and has shown no key
abbrev pub is_stranger_from : ℕ → Option Visitor → Bool
is_stranger_from network None = false
is_stranger_from network (Some v) = (v.network == network) && not v.is_leaving && not v.is_in

-- the rank by which who has a place gives way to a later one: by its number, and if its key is looked at after all others. Who has shown a
-- key, or was told to end, doesn't
abbrev pub rank_of : ℕ → Option Visitor → Option ℕ
rank_of before None = None
rank_of before (Some v) = cond (nat_le before v.number || v.is_in || v.is_leaving) None (Some (v.number + cond v.is_trying (2 ^ 64) 0))

-- its number
abbrev pub number_of : Option Visitor → Option ℕ
number_of None = None
number_of (Some v) = Some v.number

-- whether who has a place was told to end
abbrev pub is_leaving : Option Visitor → Bool
is_leaving None = false
is_leaving (Some v) = v.is_leaving

-- from where who has a place came
abbrev pub address_of : Option Visitor → Option SocketAddr
address_of None = None
address_of (Some v) = Some v.address

-- what was told to end
abbrev pub told_to_end : Option Visitor → Option Visitor
told_to_end None = None
told_to_end (Some v) = Some (record { visit = v.visit; address = v.address; network = v.network; number = v.number; is_in = v.is_in; is_trying = v.is_trying; is_leaving = true })

-- nothing changes but how far it has come
abbrev pub IsSeen : Option Visitor → Option Visitor → Type 0
IsSeen None w = w ≡ None
IsSeen (Some v) w = (is_in : Bool) × (is_trying : Bool) × (w ≡ Some (record { visit = v.visit; address = v.address; network = v.network; number = v.number; is_in = is_in; is_trying = is_trying; is_leaving = v.is_leaving }))

module _ {S : Type 0} where
  abbrev pub is_free : Place S → Bool
  is_free p = is_none p.visitor

  -- a place that nobody has
  abbrev pub free : S → Place S
  free share = record { visitor = None; share = Some share }

  abbrev pub told : Place S → Place S
  told p = record { visitor = told_to_end p.visitor; share = p.share }

  abbrev pub IsLooked : Place S → Place S → Type 0
  IsLooked p q = IsSeen p.visitor q.visitor × (q.share ≡ p.share)

  -- the share that a place lends: none if nobody has the place
  abbrev pub lent : Place S → Option S
  lent p = cond (is_none p.visitor) None p.share

  -- a place whose share is back is free
  abbrev pub left : Option S → Place S → Place S
  left (Some share) p = free share
  left None p = record { visitor = cond (is_none p.share) p.visitor None; share = p.share }

  -- a place is given to one from this network, of this number, that has shown no key
  abbrev pub IsGiven : ℕ → ℕ → Place S → Place S → Type 0
  IsGiven network number p q =
      (v : Visitor)
      × (v.network ≡ network) × (v.number ≡ number) × (v.is_in ≡ false) × (v.is_leaving ≡ false)
      × (q.visitor ≡ Some v) × (q.share ≡ p.share)
