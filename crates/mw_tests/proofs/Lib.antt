pub mod WithoutWaits
