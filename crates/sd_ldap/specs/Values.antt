-- Messages without where they lie in memory.
use Rattle.std.specs.Prelude.{ℕ, Bool, List}
use Rattle.sd_ldap.specs.Filters.{FilterValue, filter_value}
use Rattle.sd_ldap.specs.declared.result.LdapResult.{LdapResult}
use Rattle.sd_ldap.specs.declared.entry.DirEntry.{DirEntry}
use Rattle.sd_ldap.specs.declared.message.SearchRequest.{SearchRequest}
use Rattle.sd_ldap.specs.declared.message.Operation.{Operation}
use Rattle.sd_ldap.specs.declared.message.Operation.TheVariants as operations
use Rattle.sd_ldap.specs.declared.message.Message.{Message}

pub record SearchValue : Type 0 where
  pub base : List ℕ
  pub scope : ℕ
  pub deref : ℕ
  pub size : ℕ
  pub time : ℕ
  pub types_only : Bool
  pub filter : FilterValue
  pub attributes : List (List ℕ)

pub data OperationValue : Type 0 where
  bind_request : ℕ → List ℕ → List ℕ → OperationValue
  bind_response : LdapResult → OperationValue
  unbind : OperationValue
  search : SearchValue → OperationValue
  entry : DirEntry → OperationValue
  done : LdapResult → OperationValue
  reference : OperationValue
  other : ℕ → OperationValue

pub record MessageValue : Type 0 where
  pub id : ℕ
  pub operation : OperationValue

abbrev pub search_value : SearchRequest → SearchValue
search_value s = record {
  base = s.base;
  scope = s.scope;
  deref = s.deref;
  size = s.size;
  time = s.time;
  types_only = s.types_only;
  filter = filter_value s.filter;
  attributes = s.attributes;
}

abbrev pub operation_value : Operation → OperationValue
operation_value (operations.BindRequest version name password) = bind_request version name password
operation_value (operations.BindResponse result) = bind_response result
operation_value operations.Unbind = unbind
operation_value (operations.Search request) = search (search_value request)
operation_value (operations.Entry found) = entry found
operation_value (operations.Done result) = done result
operation_value operations.Reference = reference
operation_value (operations.Other tag) = other tag

abbrev pub message_value : Message → MessageValue
message_value m = record { id = m.id; operation = operation_value m.operation }
