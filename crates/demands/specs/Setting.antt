-- The box as a setting of `runs`: keys count as one only where they are equal.
use Rattle.std.specs.Prelude.{ℕ, ◌≡◌, List}
use Rattle.octets.specs.Bytes.{be}
use Rattle.runs.specs.Setting.{Setting}
use Rattle.key_index.specs.View.{key_limit}
use Rattle.key_index.specs.Good.{away_from}
use Rattle.demands.specs.Box.{Owner, ValidOwner, ValidKey, Raw, Brought, key_from, fault_of, text_from}

abbrev pub box : Setting
box = record {
  Key = List ℕ;
  Owner = Owner;
  Raw = Raw;
  Content = Brought;
  Text = List ℕ;
  ValidOwner = ValidOwner;
  ValidKey = λ o k. ValidKey k;
  dist = λ o k. away_from o.node k;
  cap = λ o. be o.cap;
  limit = λ o. key_limit;
  Same = λ o j k. j ≡ k;
  key_in = λ o raw. key_from raw;
  fault = λ o k brought. fault_of k brought;
  text_in = text_from;
}
