pub mod ChangeStores
