-- How names are stored.
use Rattle.std.specs.Prelude.{◌≡◌, ◌≤◌, ℕ, List, [], ◌∷◌, ◌++◌, Option, None, Some, IsTrue, drop, if◌then◌else◌, length, map, nat_lt, slice_get, slice_index, slice_set, unwrap_or, vec_capacity}
use Rattle.std.specs.List.{All, position_from}
use Rattle.cash_amounts.specs.Names.{is_id, is_name}
use Rattle.first_of_key.specs.declared.key.Key.{Key}
use Rattle.first_of_key.specs.First.{key_at}
use Rattle.message_names.specs.declared.names.MessageNames.TheInside.{Inside}
use Rattle.message_names.specs.Names.{IsLastBefore, MessageName, Named, is_from}
use Rattle.message_names.specs.Packing.{text_of, words_from}

-- ---- into keys

abbrev pub sender_key : List ℕ → Key
sender_key sender = record { words = words_from 6 sender 0 }

-- by the number of the first name with the same sender
abbrev pub name_key : ℕ → List ℕ → Key
name_key first id = record { words = first ∷ words_from 5 id 0 }

-- the number of the first name with this sender, and that of the next name where there is none
abbrev pub first_from : List MessageName → List ℕ → ℕ
first_from names sender = unwrap_or (position_from (is_from sender) 0 names) (length names)

-- ---- and back

abbrev pub name_in : List Key → Key → MessageName
name_in senders key = record {
  sender = text_of (key_at senders (slice_index key.words 0)).words;
  id = text_of (drop 1 key.words);
}

abbrev pub named_of : Inside → Named
named_of s = record { names = map (name_in s.senders.keys) s.ids.keys; most = s.senders.most }

-- ---- what is stored

pub record IsName (name : MessageName) : Type 0 where
  pub sender : IsTrue (is_name name.sender)
  pub id : IsTrue (is_id name.id)

-- these keys are those of the names
pub record ArePacked (names : List MessageName) (senders ids : List Key) : Type 0 where
  pub senders_are : senders ≡ map (λ name. sender_key name.sender) names
  pub ids_are : ids ≡ map (λ name. name_key (first_from names name.sender) name.id) names
  pub texts : All IsName names

-- ---- from name to name of one sender

-- a link to an earlier name, or none
abbrev pub back_of : ℕ → ℕ → Option ℕ
back_of i link = if nat_lt link i then Some link else None

-- one link more: that of the first name of its sender leads to it, and its own where that one led
abbrev pub linked : ℕ → List ℕ → List ℕ
linked first links = slice_set links first (length links) ++ unwrap_or (slice_get links first) (length links) ∷ []

-- the first name of a sender leads to the last, and each other name to the one before it
pub record AreLinked (names : List MessageName) (links : List ℕ) : Type 0 where
  pub one_each : length links ≡ length names
  pub lasts : (s : List ℕ) (f : ℕ) → position_from (is_from s) 0 names ≡ Some f → IsLastBefore names s (length names) (Some (slice_index links f))
  pub befores : (i : ℕ) (name : MessageName) → slice_get names i ≡ Some name → IsLastBefore names name.sender i (back_of i (slice_index links i))

pub record IsStored (s : Inside) : Type 0 where
  pub packed : ArePacked (named_of s).names s.senders.keys s.ids.keys
  pub most : s.ids.most ≡ s.senders.most
  pub linked : AreLinked (named_of s).names s.links.items
  pub room : s.senders.most ≤ vec_capacity s.links

-- ---- names by themselves

abbrev pub names_in : List Key → List (List ℕ)
names_in keys = map (λ key. text_of key.words) keys

-- these keys are those of the names
pub record AreKeys (names : List (List ℕ)) (keys : List Key) : Type 0 where
  pub keys_are : keys ≡ map sender_key names
  pub texts : All (λ name. IsTrue (is_name name)) names
