mod ReadFiles
